-- Shares that are cut off at one bar have the least sum of squared distances. The square at any z, too, lies on or above a
-- line through the square at the share, of slope A * (A - bar): with A, the bar and z written as sums, only products of
-- whole numbers are left on the larger side.
use mathlib.Core.Path.{◌≡◌}
use mathlib.Core.List.{List}
use Prim.Native.Nat.{ℕ, zero, suc, ◌+◌, ◌*◌, ◌≤◌, ◌<◌}
use native.Mathlib.Nat.{le_dest, mul-le-mul_left}
use native.Mathlib.Omega.{arith}
use lib.ListN.{length}
use Rattle.share.specs.Totals.{at, total}
use Rattle.share.specs.Shares.{floor}
use Rattle.share.specs.Nearness.{apart, miss, squares, SharesOut}
use Rattle.share.proofs.Sums.{balance}
use Rattle.share.proofs.OneShare.{Level, low, high, level, Place, up, down, place, Line, scaled}
use Rattle.share.proofs.CutOff.{CutOff, exact_parts, cut_small, same_sum}

-- The line of the squares, with d the distance at x and g that at z.
abbrev SquareLine : (A bar d g x z : ℕ) → Type 0
SquareLine A bar d g x z = Line ◌≤◌ (A * A) (A * bar) (d * d) (g * g) x z

-- The share is low or high, and z is up or down.
module _ (A bar f r d g x z : ℕ) where
  low_up : (v t s : ℕ) → r + t ≡ A → 2 * r + s ≡ bar → x ≡ f → f + 1 + v ≡ z → d ≡ r → g ≡ t + A * v → SquareLine A bar d g x z
  low_up v t s eA eb ex ez ed eg = rw (ed, eg, ex, ← eA, ← eb, ← ez) (omega arith)

  low_down : (v : ℕ) → bar ≤ 2 * A → x ≡ f → z + v ≡ f → d ≡ r → g ≡ A * v + r → SquareLine A bar d g x z
  low_down zero h ex ez ed eg = rw (ed, eg, ex, ← ez) (omega arith)
  low_down (suc u) h ex ez ed eg = rw (ed, eg, ex, ← ez) (omega (arith, mul-le-mul_left (A * suc u) h))

  high_up : (v t : ℕ) → x ≡ f + 1 → f + 1 + v ≡ z → d ≡ t → g ≡ t + A * v → SquareLine A bar d g x z
  high_up zero t ex ez ed eg = rw (ed, eg, ex, ← ez) (omega arith)
  high_up (suc u) t ex ez ed eg = rw (ed, eg, ex, ← ez) (omega arith)

  high_down : (v t : ℕ) → r + t ≡ A → bar ≤ 2 * r → x ≡ f + 1 → z + v ≡ f → d ≡ t → g ≡ A * v + r → SquareLine A bar d g x z
  high_down v t eA h ex ez ed eg = rw (ed, eg, ex, ← eA, ← ez) (omega (arith, mul-le-mul_left ((r + t) * (v + 1)) h))

module _ {A bar a f r x z : ℕ} (small : r < A) (parts : A * f + r ≡ a) (top : bar < 2 * A) where
  square_line : Level bar f r x → Place f z → (t : ℕ) × (r + t ≡ A) → SquareLine A bar (apart (A * x) a) (apart (A * z) a) x z
  square_line (low e h) (up v p) t =
      let s : (s : ℕ) × (2 * r + s ≡ bar) = le_dest h in
      low_up A bar f r _ _ x z v t.0 s.0 t.1 s.1 e p (omega (arith, scaled A A e)) (omega (arith, scaled A A p))
  square_line (low e h) (down v p) t =
      low_down A bar f r _ _ x z v (omega arith) e p (omega (arith, scaled A A e)) (omega (arith, scaled A A p))
  square_line (high e h) (up v p) t =
      high_up A bar f r _ _ x z v t.0 e p (omega (arith, scaled A A e)) (omega (arith, scaled A A p))
  square_line (high e h) (down v p) t =
      high_down A bar f r _ _ x z v t.0 t.1 h e p (omega (arith, scaled A A e)) (omega (arith, scaled A A p))

-- No list with the same total has a smaller sum of squared distances.
pub cut_squared : (w : List ℕ) (c : ℕ) (x : List ℕ) → CutOff w c x → SharesOut w c x → (y : List ℕ) → SharesOut w c y
    → squares w c x ≤ squares w c y
unfolding squares
cut_squared w c x cut s y t =
    balance (length w) (total w * total w) (total w * cut.bar) (λ i. miss w c x i * miss w c x i) (λ i. miss w c y i * miss w c y i)
    (at x) (at y) (same_sum w c x y s t)
    (λ i l.
    let r = cut_small w c x cut i in
    square_line r (exact_parts w c i) cut.top (level (cut.side i l)) (place (floor w c i) (at y i)) (le_dest (omega (arith, r))))
