-- A book stays sound when the ledger changes so that each allocation keeps its parties and holds no more of its generator's credits (`lessened_kept`: all
-- kinds from 9 to 14), and when one more allocation is given that the generator's credits allow (`submitted_kept`: SUBMIT). Assumes nothing.
use mathlib.Core.Path.{◌≡◌, refl, sym, ◌∙◌}
use mathlib.Core.Bool.{Bool, true, false, cond, ◌&&◌}
use mathlib.Core.Logic.{◌≢◌}
use mathlib.Core.List.{List}
use Prim.Native.Nat.{ℕ, ◌+◌, ◌-◌, ◌≤◌, ◌<◌}
use native.Mathlib.Nat.{le_refl}
use native.Mathlib.Omega.{arith}
use lib.Dec.{eqb}
use lib.ListN.{length, get_or, set, length-set}
use borrow.Author.Tests.{eq-eqb}
use Rattle.book.specs.declared.Account.{Account}
use Rattle.book.specs.declared.Allocation.{Allocation}
use Rattle.book.specs.declared.Status.{Status}
use Rattle.book.specs.Book.{Book, allocation, status_number, no_allocation, participants, most_given, most_quantity}
use Rattle.book.specs.Words.{pending, accepted}
use Rattle.book.specs.Sound.{is_no_allocation}
use Rattle.book.specs.Steps.{numbered, with_status, with_month, with_ledger, with_allocation}
use Rattle.book.proofs.Tests.{both}
use Rattle.book.proofs.Tables.{after_set}
use Rattle.book.proofs.Sums.{total_le, total-set}
use Rattle.book.proofs.Sound.{Given, Opened, allocation_is}
use Rattle.book.proofs.Held.{is_held, held_in, held_total}

-- an allocation rewritten: the same parties, no higher quantity, empty as before, and held only if it was held
pub record Lessened (old new : Allocation) : Type 0 where
  pub generator : new.generator ≡ old.generator
  pub customer : new.customer ≡ old.customer
  pub quantity : new.quantity.0 ≤ old.quantity.0
  pub named : eqb (status_number new.status) 0 ≡ eqb (status_number old.status) 0
  pub held : is_held new.status ≡ true → is_held old.status ≡ true

pub unchanged : (a : Allocation) → Lessened a a
unchanged a = record { generator = refl; customer = refl; quantity = le_refl a.quantity.0; named = refl; held = λ h. h }

-- another status
pub restated : (a : Allocation) (s : Status) → eqb (status_number a.status) 0 ≡ false → eqb (status_number s) 0 ≡ false → (is_held s ≡ true → is_held a.status ≡ true) → Lessened a (with_status s a)
restated a s was is h = record { generator = refl; customer = refl; quantity = le_refl a.quantity.0; named = is ∙ sym was; held = h }

module _ {old new : Allocation} (less : Lessened old new) where
  held_less : (p : ℕ) → held_in p new ≤ held_in p old
  held_less p = rw less.generator (by (eqb old.generator p) (is_held new.status) (is_held old.status) less.held)
    where
      by : (t n o : Bool) → (n ≡ true → o ≡ true) → cond (t && n) new.quantity.0 0 ≤ cond (t && o) old.quantity.0 0
      by false n o h = omega arith
      by true false o h = omega arith
      by true true o h = rw (h refl) less.quantity

  still_given : {accounts : List Account} → Given accounts old → Given accounts new
  still_given g = record {
    named = less.named ∙ g.named;
    generator = rw less.generator g.generator;
    customer = rw less.customer g.customer;
    quantity = omega (arith, less.quantity, g.quantity);
  }

still_empty : {new : Allocation} → Lessened no_allocation new → new ≡ no_allocation
unfolding is_no_allocation
still_empty {new} less = let nothing : new.quantity.0 ≡ 0 = omega arith in allocation_is new (search (both, eq-eqb))

-- ---- each allocation rewritten
module _ {b : Book} (o : Opened b) where
  pub lessened_kept : (l : List Allocation) → length l ≡ length b.ledger → ((i : ℕ) → Lessened (get_or b.ledger i no_allocation) (get_or l i no_allocation)) → Opened (with_ledger (λ _. l) b)
  lessened_kept l e less = record {
    lengths = record { windows = o.lengths.windows; accounts = o.lengths.accounts; levels = o.lengths.levels; ledger = e ∙ o.lengths.ledger };
    month = o.month;
    accounts = o.accounts;
    levels = o.levels;
    given = λ i m. still_given (less i) (o.given i m);
    later = λ i m. still_empty (rw (o.later i m) at (less i));
    held = λ p m.
        omega (
          arith,
          held_total p l,
          held_total p b.ledger,
          total_le (held_in p) (held_in p) no_allocation l b.ledger e (λ i _. held_less (less i) p),
          o.held p m,
        );
  }

  -- the one of number n
  pub rewritten_kept : (n : ℕ) → n - 1 < b.month.given → (a : Allocation) → Lessened (allocation b n) a → Opened (with_allocation n (λ _. a) b)
  rewritten_kept n m a less =
      lessened_kept (set b.ledger (n - 1) a) (length-set b.ledger (n - 1) a)
      (after_set (λ i. Lessened (get_or b.ledger i no_allocation)) b.ledger (n - 1) a no_allocation (omega (arith, o.month.given, o.lengths.ledger)) less (λ i _. unchanged (get_or b.ledger i no_allocation)))

  -- ---- one more given
  pub submitted_kept : (a : Allocation) → b.month.given < most_given → Given b.accounts a → ((p : ℕ) → p < participants → pending b p + accepted b p + held_in p a ≤ most_quantity)
      → Opened (with_ledger (λ l. set l b.month.given a) (with_month numbered b))
  submitted_kept a room g credits = record {
    lengths = record { windows = o.lengths.windows; accounts = o.lengths.accounts; levels = o.lengths.levels; ledger = length-set b.ledger b.month.given a ∙ o.lengths.ledger };
    month = record {
      fewest = o.month.fewest;
      most = o.month.most;
      price_low = o.month.price_low;
      price_high = o.month.price_high;
      given = omega arith;
      windows = o.month.windows;
    };
    accounts = o.accounts;
    levels = o.levels;
    given = each_record (λ i x. i < b.month.given + 1 → Given b.accounts x) (λ _. g) (λ i n m. o.given i (omega arith));
    later = each_record (λ i x. b.month.given + 1 ≤ i → x ≡ no_allocation) (λ m. absurd (omega arith)) (λ i n m. o.later i (omega arith));
    held = λ p m.
        omega (
          arith,
          held_total p (set b.ledger b.month.given a),
          held_total p b.ledger,
          total-set (held_in p) no_allocation b.ledger b.month.given a fits,
          credits p m,
        );
  }
    where
      fits : b.month.given < length b.ledger
      fits = omega (arith, o.lengths.ledger)

      each_record : (P : ℕ → Allocation → Type 0) → P b.month.given a → ((i : ℕ) → i ≢ b.month.given → P i (get_or b.ledger i no_allocation)) → (i : ℕ) → P i (get_or (set b.ledger b.month.given a) i no_allocation)
      each_record P = after_set P b.ledger b.month.given a no_allocation fits
