-- `is_no_month` meets its contract: the derived `==` has the definition's tests, in the fields' own order, and the four windows one by one. Assumes
-- nothing.
use Rattle.std.proofs.Common.{◌≡◌, ◌∙◌, ◌&&◌, Bool, ℤ, pos, eqb, int_eq, length, get_or, replicate, rules, arith}
use Rattle.std.proofs.lemmas.Int.{ints}
use Rattle.book.specs.declared.Month.{Month}
use Rattle.book.specs.declared.Window.{Window}
use Rattle.book.specs.Book.{no_window}
use Rattle.book.specs.Sound.{is_zero, is_no_month, is_no_window}
use Rattle.sound.proofs.Whole.{same_each, all_each, all_same}
use Rattle.sound.proofs.limits.is_no_month.Goals as goal
use lib.Pointwise.{pointwise}

zero_same : (z : ℤ) → int_eq z (pos 0) ≡ is_zero z
zero_same z = grind (arith, ints)

-- the derived `==` of two windows
abbrev same : Window → Window → Bool
same v w = int_eq v.opening.0 w.opening.0 && int_eq v.closing.0 w.closing.0

none_same : (w : Window) → same w no_window ≡ is_no_window w
none_same w = λ i. zero_same w.opening.0 i && zero_same w.closing.0 i

-- five tests in another order
turned : (price last windows given days : Bool) → (price && (last && (windows && (given && days)))) ≡ (days && (price && (last && (given && windows))))
turned price last windows given days = grind arith

month_same : (m : Month) → length m.windows ≡ 4
    → (int_eq m.price.0 (pos 0) && (int_eq m.last.0 (pos 0) && (pointwise same m.windows (replicate 4 no_window) && (eqb m.given 0 && eqb m.days 0)))) ≡ is_no_month m
unfolding is_no_month
month_same m long =
    let windows =
    all_same same m.windows no_window 4 long
    ∙ all_each (λ w. same w no_window) m.windows no_window 4 long
    ∙ same_each 4 _ _ (λ i o. none_same (get_or m.windows i no_window)) in
    turned (int_eq m.price.0 (pos 0)) (int_eq m.last.0 (pos 0)) (pointwise same m.windows (replicate 4 no_window)) (eqb m.given 0) (eqb m.days 0)
    ∙ λ i. eqb m.days 0 && (zero_same m.price.0 i && (zero_same m.last.0 i && (eqb m.given 0 && windows i)))

pub returns : goal.returns
returns c =
    let long : length c.args.m.windows ≡ 4 = search rules in
    rw (c.eq.ensures, c.fresh_month.ensures) (month_same c.args.m long)
