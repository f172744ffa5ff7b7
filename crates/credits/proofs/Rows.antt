-- What a row of the table tells, and that the test for one does nothing in a whole table and a month of at most 31 days: past the last participant there
-- are no levels. Assumes nothing.
use mathlib.Core.Path.{◌≡◌, refl}
use mathlib.Core.Bool.{true, cond}
use mathlib.Core.List.{List}
use Prim.Native.Nat.{ℕ, zero, suc, ◌≤◌, ◌<◌}
use native.Mathlib.Nat.{zero-div}
use native.Mathlib.Omega.{arith}
use lib.ListN.{length, get_or-eq_default}
use borrow.Author.Tests.{eqb-true, leb-true, ltb-true}
use Rattle.std.proofs.lemmas.Bool.Decides.{nat_tests}
use Rattle.book.specs.Book.{participants, most_days, level_places}
use Rattle.book.specs.Words.{level_place, over_days, tradeable_in}
use Rattle.book.proofs.Tests.{parts}
use Rattle.credits.specs.Credits.{credit_days, dsm_in, has_row, tradeable_at, dsm_at}

pub record Row (lv : List ℕ) (d p : ℕ) : Type 0 where
  pub whole : length lv ≡ level_places
  pub days : d ≤ most_days
  pub party : p < participants

pub row_of : (lv : List ℕ) (d p : ℕ) → has_row lv d p ≡ true → Row lv d p
row_of lv d p h = search (parts, eqb-true, leb-true, ltb-true)

-- ---- nobody past the last participant has credits
kind_past : (lv : List ℕ) (d p kind : ℕ) → length lv ≡ level_places → participants ≤ p → credit_days lv d p kind ≡ 0
unfolding over_days
kind_past lv zero p kind whole past = refl
kind_past lv (suc d) p kind whole past =
    omega (arith, kind_past lv d p kind whole past, get_or-eq_default lv 0 {n = level_place p kind (suc d)} (omega arith))

module _ (lv : List ℕ) (d p : ℕ) (whole : length lv ≡ level_places) (days : d ≤ most_days) where
  -- so the test does nothing
  untested : (n : ℕ) → (participants ≤ p → n ≡ 0) → cond (has_row lv d p) n 0 ≡ n
  untested n past = grind (arith, nat_tests)

  pub tradeable_at_lem : tradeable_at lv d p ≡ tradeable_in lv d p
  unfolding tradeable_at tradeable_in
  tradeable_at_lem = untested (tradeable_in lv d p) (λ past. rw (kind_past lv d p 1 whole past, kind_past lv d p 2 whole past) (zero-div d))

  pub dsm_at_lem : dsm_at lv d p ≡ dsm_in lv d p
  unfolding dsm_at dsm_in
  dsm_at_lem = untested (dsm_in lv d p) (λ past. rw (kind_past lv d p 4 whole past) (zero-div d))
