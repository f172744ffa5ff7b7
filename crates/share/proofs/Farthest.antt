-- Shares that are cut off at one bar have the least largest distance: a bound p on every distance of y bounds those of x.
-- A share smaller than that of x is off by at least half the bar, and a larger one by at least A less half the bar. A low
-- share of x is off by at most half the bar. If that is above p, no share of y is smaller than that of x, this one is
-- larger, and the totals differ. A high share goes the other way round.
use mathlib.Core.Path.{◌≡◌}
use mathlib.Core.List.{List}
use Prim.Native.Nat.{ℕ, ◌+◌, ◌*◌, ◌≤◌, ◌<◌}
use native.Mathlib.Nat.{mul-le-mul_left}
use native.Mathlib.Decide.{dec_le}
use native.Mathlib.Omega.{arith}
use lib.ListN.{length}
use Rattle.share.specs.Totals.{at, total, largest}
use Rattle.share.specs.Shares.{exact, floor, remainder}
use Rattle.share.specs.Nearness.{apart, miss, farthest, SharesOut}
use Rattle.share.proofs.Sums.{sum_lt}
use Rattle.share.proofs.Largest.{le_largest, largest_le}
use Rattle.share.proofs.OneShare.{Level, low, high, level, scaled}
use Rattle.share.proofs.CutOff.{CutOff, exact_parts, cut_small, same_sum}

-- A product with a larger factor.
grown : (A : ℕ) {k m : ℕ} → k < m → A * k + A ≤ A * m
grown A {k} {m} l = omega (arith, mul-le-mul_left A l)

module _ {A bar a f r x z : ℕ} (small : r < A) (parts : A * f + r ≡ a) (top : bar < 2 * A) where
  smaller_off : z < x → Level bar f r x → bar ≤ 2 * apart (A * z) a
  smaller_off u (low e h) = omega (arith, grown A {k = z} {m = f} (omega arith))
  smaller_off u (high e h) = omega (arith, mul-le-mul_left {m = z} {n = f} A (omega arith))

  larger_off : x < z → Level bar f r x → 2 * A ≤ 2 * apart (A * z) a + bar
  larger_off u (low e h) = omega (arith, grown A {k = f} {m = z} (omega arith))
  larger_off u (high e h) = omega (arith, grown A {k = f + 1} {m = z} (omega arith))

module _ (w : List ℕ) (c : ℕ) (x : List ℕ) (cut : CutOff w c x) (s : SharesOut w c x) (y : List ℕ) (t : SharesOut w c y) (p : ℕ)
    (bound : (i : ℕ) → i < length w → miss w c y i ≤ p) where
  -- No share of y is smaller, if half the bar is above the bound.
  none-smaller : 2 * p < cut.bar → (i : ℕ) → i < length w → at x i ≤ at y i
  none-smaller b i l = go (dec_le (at x i) (at y i))
    where
      off : at y i < at x i → cut.bar ≤ 2 * miss w c y i
      off u = smaller_off (cut_small w c x cut i) (exact_parts w c i) cut.top u (level (cut.side i l))

      go : Dec (at x i ≤ at y i) → at x i ≤ at y i
      go (yes q) = q
      go (no q) = absurd (omega (arith, bound i l, off (omega arith)))

  -- None is larger, if A less half the bar is.
  none-larger : 2 * p + cut.bar < 2 * total w → (i : ℕ) → i < length w → at y i ≤ at x i
  none-larger b i l = go (dec_le (at y i) (at x i))
    where
      off : at x i < at y i → 2 * total w ≤ 2 * miss w c y i + cut.bar
      off u = larger_off (cut_small w c x cut i) (exact_parts w c i) cut.top u (level (cut.side i l))

      go : Dec (at y i ≤ at x i) → at y i ≤ at x i
      go (yes q) = q
      go (no q) = absurd (omega (arith, bound i l, off (omega arith)))

  bounded : (i : ℕ) → i < length w → miss w c x i ≤ p
  bounded i l = go (level (cut.side i l)) (dec_le (miss w c x i) p) (dec_le (at y i) (at x i)) (dec_le (at x i) (at y i))
    where
      parts : (total w * floor w c i + remainder w c i ≡ exact w c i) × (remainder w c i < total w)
      parts = (exact_parts w c i, cut_small w c x cut i)

      go : Level cut.bar (floor w c i) (remainder w c i) (at x i)
          → Dec (miss w c x i ≤ p) → Dec (at y i ≤ at x i) → Dec (at x i ≤ at y i) → miss w c x i ≤ p
      go (low e h) (yes q) _ _ = q
      go (low e h) (no q) (yes u) _ = omega (arith, parts, bound i l, mul-le-mul_left (total w) u, scaled (total w) (total w) e)
      go (low e h) (no q) (no u) _ =
          let b : 2 * p < cut.bar = omega (arith, parts, scaled (total w) (total w) e) in
          omega (arith, sum_lt (length w) (at x) (at y) (none-smaller b) i l (omega arith), same_sum w c x y s t)
      go (high e h) (yes q) _ _ = q
      go (high e h) (no q) _ (yes u) = omega (arith, parts, bound i l, mul-le-mul_left (total w) u, scaled (total w) (total w) e)
      go (high e h) (no q) _ (no u) =
          let b : 2 * p + cut.bar < 2 * total w = omega (arith, parts, scaled (total w) (total w) e) in
          omega (arith, sum_lt (length w) (at y) (at x) (none-larger b) i l (omega arith), same_sum w c x y s t)

-- No list with the same total has a smaller largest distance.
pub cut_worst : (w : List ℕ) (c : ℕ) (x : List ℕ) → CutOff w c x → SharesOut w c x → (y : List ℕ) → SharesOut w c y
    → farthest w c x ≤ farthest w c y
unfolding farthest
cut_worst w c x cut s y t =
    largest_le (length w) (largest (length w) (miss w c y)) (miss w c x)
    (bounded w c x cut s y t (largest (length w) (miss w c y)) (le_largest (length w) (miss w c y)))
