-- What a step has that is not refused at the door: its parties are known and its numbers in range, on the book at hand, or on one with the month and the roles
-- that were seen. Assumes nothing.
use mathlib.Core.Path.{◌≡◌, sym, ap, ◌∙◌}
use mathlib.Core.Bool.{true, false, false≢true}
use mathlib.Core.List.{List, []}
use Prim.Native.Nat.{ℕ, suc, ◌≤◌, ◌<◌}
use native.Mathlib.Omega.{arith}
use lib.Dec.{eqb, ltb}
use native.Mathlib.Decide.{dec_lt}
use lib.ListN.{length, get_or, get_or-eq_default, get_or-replicate, replicate}
use borrow.Author.Tests.{not-false, eqb-false, ltb-false}
use Rattle.record.specs.declared.Step.{Step}
use Rattle.book.specs.declared.Month.{Month}
use Rattle.book.specs.declared.Account.{Account}
use Rattle.book.specs.Book.{Book, account, no_account}
use Rattle.book.specs.Reasons.{early, lowest, not_given, reason2, reason3, reason4, reason5, reason6, reason7, in_range}
use Rattle.book.proofs.NoReason.{pass}
use Rattle.book.proofs.Tests.{neither}

pub record Passed (b : Book) (s : Step) : Type 0 where
  pub no5 : reason5 b s ≡ false
  pub no7 : in_range b s ≡ true

pub passed : (b : Book) (s : Step) → lowest early b s ≡ 0 → Passed b s
passed b s e =
    let p2 = pass (reason2 b s) 1 _ e in
    let p3 = pass (reason3 b s) 2 _ p2.later in
    let p4 = pass (reason4 b s) 3 _ p3.later in
    let p5 = pass (reason5 b s) 4 _ p4.later in
    let p6 = pass (reason6 b s) 5 _ p5.later in
    let p7 = pass (reason7 b s) 6 _ p6.later in
    record { no5 = p5.no; no7 = not-false (in_range b s) p7.no }

-- a book with this month in which a participant has these roles
abbrev pub seen_book : Month → ℕ → ℕ → Book
seen_book m p roles = record { month = m; accounts = replicate (suc p) (record { roles = roles; requirement = no_account.requirement; margin = no_account.margin }); levels = []; ledger = [] }

pub seen_roles : (m : Month) (p roles : ℕ) → (account (seen_book m p roles) p).roles ≡ roles
seen_roles m p roles = rw (get_or-replicate (suc p) p (record { roles = roles; requirement = no_account.requirement; margin = no_account.margin }) no_account (omega arith))

-- who has roles has an account
pub has_account : (accounts : List Account) (p : ℕ) → eqb (get_or accounts p no_account).roles 0 ≡ false → p < length accounts
has_account accounts p e = by (dec_lt p (length accounts))
  where
    by : Dec (p < length accounts) → p < length accounts
    by (yes l) = l
    by (no l) = absurd (false≢true (sym e ∙ ap (λ (a : Account). eqb a.roles 0) (get_or-eq_default accounts no_account (omega arith))))

-- a number that was given is one of them
pub given_range : (b : Book) (n : ℕ) → not_given b n ≡ false → (1 ≤ n) × (n ≤ b.month.given)
given_range b n e =
    let g = neither (eqb n 0) (ltb b.month.given n) e in
    let z = eqb-false n 0 g.0 in
    (omega arith, ltb-false b.month.given n g.1)
