-- A book stays sound when one account is rewritten with numbers inside their limits and keeps the roles that it had: every allocation's parties are then
-- still in proper roles. REGISTER, REQUIREMENT and MARGIN write so. Assumes nothing.
use mathlib.Core.Path.{◌≡◌}
use mathlib.Core.Bool.{Bool, true}
use Prim.Native.Nat.{ℕ, ◌<◌}
use native.Mathlib.Omega.{arith}
use lib.ListN.{get_or, set, length-set}
use Rattle.book.specs.declared.Account.{Account}
use Rattle.book.specs.declared.Allocation.{Allocation}
use Rattle.book.specs.Book.{Book, account, is_generator, is_customer, no_account, participants}
use Rattle.book.specs.Steps.{with_account}
use Rattle.book.proofs.Tables.{after_set}
use Rattle.book.proofs.Sound.{SoundAccount, Given, Opened}

-- account p becomes a
module _ {b : Book} (o : Opened b) (p : ℕ) (below : p < participants) (a : Account) (limits : SoundAccount a) where
  -- what holds of a and of the other accounts
  each_account : (P : ℕ → Account → Type 0) → P p a → ((q : ℕ) → P q (account b q)) → (q : ℕ) → P q (get_or (set b.accounts p a) q no_account)
  each_account P new old = after_set P b.accounts p a no_account (omega (arith, o.lengths.accounts)) new (λ q _. old q)

  pub account_kept : (is_generator (account b p) ≡ true → is_generator a ≡ true) → (is_customer (account b p) ≡ true → is_customer a ≡ true) → Opened (with_account p (λ _. a) b)
  account_kept generates buys = record {
    lengths = record { windows = o.lengths.windows; accounts = simp length-set o.lengths.accounts; levels = o.lengths.levels; ledger = o.lengths.ledger };
    month = o.month;
    accounts = each_account (λ q x. q < participants → SoundAccount x) (λ _. limits) o.accounts;
    levels = o.levels;
    given = λ i l. still (o.given i l);
    later = o.later;
    held = o.held;
  }
    where
      role_kept : (t : Account → Bool) → (t (account b p) ≡ true → t a ≡ true) → (q : ℕ) → t (account b q) ≡ true → t (get_or (set b.accounts p a) q no_account) ≡ true
      role_kept t k = each_account (λ q x. t (account b q) ≡ true → t x ≡ true) k (λ q h. h)

      still : {x : Allocation} → Given b.accounts x → Given (set b.accounts p a) x
      still {x} g = record {
        named = g.named;
        generator = role_kept is_generator generates x.generator g.generator;
        customer = role_kept is_customer buys x.customer g.customer;
        quantity = g.quantity;
      }
