-- What the sums are in a book, and how large. In a book whose tables have their lengths they are the book's own credits, by definition. Where no level is
-- above 10,000,000, one kind over any days, by the days, is not above it, and two are not above twice that. Assumes nothing.
use mathlib.Core.Path.{◌≡◌}
use mathlib.Core.Bool.{cond}
use mathlib.Core.List.{List}
use Prim.Native.Nat.{ℕ, ◌*◌, ◌≤◌, ◌<◌}
use native.Mathlib.Nat.{div-le_of_le-mul}
use native.Mathlib.Omega.{arith}
use lib.ListN.{length, get_or, get_or-eq_default}
use Rattle.std.proofs.lemmas.Bool.Decides.{nat_tests}
use Rattle.book.specs.Book.{Book, most_days, most_level, most_quantity, level_places}
use Rattle.book.specs.Words.{level_place, tradeable, tradeable_in}
use Rattle.book.specs.Settlement.{dsm_of}
use Rattle.book.proofs.Bounds.{days_most}
use Rattle.credits.specs.Credits.{credit_days, dsm_in, has_row, tradeable_at, dsm_at}
use Rattle.credits.proofs.Rows.{tradeable_at_lem, dsm_at_lem}

-- ---- in a book
module _ (b : Book) (p : ℕ) (whole : length b.levels ≡ level_places) (days : b.month.days ≤ most_days) where
  pub tradeable_in_lem : tradeable_at b.levels b.month.days p ≡ tradeable b p
  tradeable_in_lem = tradeable_at_lem b.levels b.month.days p whole days

  pub dsm_in_lem : dsm_at b.levels b.month.days p ≡ dsm_of b p
  unfolding dsm_in dsm_of
  dsm_in_lem = dsm_at_lem b.levels b.month.days p whole days

-- ---- how large
module _ (lv : List ℕ) (d p : ℕ) (low : (i : ℕ) → i < level_places → get_or lv i 0 ≤ most_level) where
  -- past the table there is nothing
  low_past : length lv ≡ level_places → (i : ℕ) → get_or lv i 0 ≤ most_level
  low_past whole i = let h = low i in let e = get_or-eq_default lv 0 {n = i} in grind arith

  kind_most : (kind : ℕ) → length lv ≡ level_places → credit_days lv d p kind ≤ d * most_level
  kind_most kind whole = days_most d most_level (λ day. get_or lv (level_place p kind day) 0) (λ day. low_past whole (level_place p kind day))

  where_row : (n most : ℕ) → (length lv ≡ level_places → n ≤ most) → cond (has_row lv d p) n 0 ≤ most
  where_row n most h = grind (arith, nat_tests)

  pub tradeable_most : tradeable_at lv d p ≤ most_quantity
  unfolding tradeable_at tradeable_in
  tradeable_most = where_row (tradeable_in lv d p) most_quantity (λ whole. div-le_of_le-mul d (omega (arith, kind_most 1 whole, kind_most 2 whole)))

  pub dsm_most : dsm_at lv d p ≤ most_level
  unfolding dsm_at dsm_in
  dsm_most = where_row (dsm_in lv d p) most_level (λ whole. div-le_of_le-mul d (kind_most 4 whole))
