-- One share. Its exact value is a / A with a = A * f + r and r < A. Units are given down to a bar, which is twice a
-- remainder: a share with 2 * r above the bar is f + 1, one below it is f, and of those at the bar the indices before
-- `stop` have their unit. Then the distance at any z lies on or above a line through the distance at the share, whose
-- slope A - bar is the same for all shares; over whole numbers the line's terms stand on both sides.
use mathlib.Core.Path.{◌≡◌, ap}
use Prim.Native.Nat.{ℕ, ◌+◌, ◌*◌, ◌≤◌, ◌<◌}
use native.Mathlib.Nat.{le_dest, mul-le-mul_right}
use native.Mathlib.Decide.{dec_le}
use native.Mathlib.Omega.{arith}
use Rattle.share.specs.Nearness.{apart}

-- On which side of the bar the share x at index i is.
pub data Side (bar stop i f r x : ℕ) : Type 0 where
  under : x ≡ f → 2 * r < bar → Side bar stop i f r x
  tie_without : x ≡ f → 2 * r ≡ bar → stop ≤ i → Side bar stop i f r x
  over : x ≡ f + 1 → bar < 2 * r → Side bar stop i f r x
  tie_with : x ≡ f + 1 → 2 * r ≡ bar → i < stop → Side bar stop i f r x

-- The same without the order of the ties.
pub data Level (bar f r x : ℕ) : Type 0 where
  low : x ≡ f → 2 * r ≤ bar → Level bar f r x
  high : x ≡ f + 1 → bar ≤ 2 * r → Level bar f r x

pub level : {bar stop i f r x : ℕ} → Side bar stop i f r x → Level bar f r x
level (under e h) = low e (omega arith)
level (tie_without e h s) = low e (omega arith)
level (over e h) = high e (omega arith)
level (tie_with e h s) = high e (omega arith)

-- Whether z is above f, and how far off.
pub data Place (f z : ℕ) : Type 0 where
  up : (v : ℕ) → f + 1 + v ≡ z → Place f z
  down : (v : ℕ) → z + v ≡ f → Place f z

pub place : (f z : ℕ) → Place f z
place f z = go (dec_le z f)
  where
    go : Dec (z ≤ f) → Place f z
    go (yes l) = let d : (v : ℕ) × (z + v ≡ f) = le_dest l in down d.0 d.1
    go (no l) = let d : (v : ℕ) × (f + 1 + v ≡ z) = le_dest {n = f + 1} {m = z} (omega arith) in up d.0 d.1

-- The line through d at x, of slope p - q, compared at z with e.
abbrev pub Line : (ℕ → ℕ → Type 0) → (p q d e x z : ℕ) → Type 0
Line R p q d e x z = R (d + p * z + q * x) (e + p * x + q * z)

-- Equal numbers have equal multiples.
pub scaled : (p q : ℕ) {k m : ℕ} → k ≡ m → (p * k ≡ p * m) × (q * k ≡ q * m)
scaled p q e = (ap (λ n. p * n) e, ap (λ n. q * n) e)

module _ {A bar a f r x z : ℕ} (small : r < A) (parts : A * f + r ≡ a) (top : bar < 2 * A) where
  -- The distance at z is on the line or above it.
  pub line : Level bar f r x → Place f z → Line ◌≤◌ A bar (apart (A * x) a) (apart (A * z) a) x z
  line (low e h) (up v p) = omega (arith, scaled A bar e, scaled A bar p)
  line (low e h) (down v p) = omega (arith, scaled A bar e, scaled A bar p, mul-le-mul_right v top)
  line (high e h) (up v p) = omega (arith, scaled A bar e, scaled A bar p)
  line (high e h) (down v p) = omega (arith, scaled A bar e, scaled A bar p, mul-le-mul_right v top)

module _ {A bar stop i a f r x z : ℕ} (small : r < A) (parts : A * f + r ≡ a) (pos : 0 < bar) (top : bar < 2 * A) where
  -- Before `stop` it is above the line at each larger share.
  pub line_larger : i < stop → x < z → Side bar stop i f r x → Place f z → Line ◌<◌ A bar (apart (A * x) a) (apart (A * z) a) x z
  line_larger l u (under e h) (up v p) = omega (arith, scaled A bar e, scaled A bar p)
  line_larger l u (under e h) (down v p) = absurd (omega arith)
  line_larger l u (tie_without e h s) q = absurd (omega arith)
  line_larger l u (over e h) (up v p) = omega (arith, scaled A bar e, scaled A bar p, mul-le-mul_right v pos)
  line_larger l u (over e h) (down v p) = absurd (omega arith)
  line_larger l u (tie_with e h s) (up v p) = omega (arith, scaled A bar e, scaled A bar p, mul-le-mul_right v pos)
  line_larger l u (tie_with e h s) (down v p) = absurd (omega arith)

  -- From `stop` on it is at each smaller one.
  pub line_smaller : stop ≤ i → z < x → Side bar stop i f r x → Place f z → Line ◌<◌ A bar (apart (A * x) a) (apart (A * z) a) x z
  line_smaller l u (under e h) (up v p) = absurd (omega arith)
  line_smaller l u (under e h) (down v p) = omega (arith, scaled A bar e, scaled A bar p, mul-le-mul_right v top)
  line_smaller l u (tie_without e h s) (up v p) = absurd (omega arith)
  line_smaller l u (tie_without e h s) (down v p) = omega (arith, scaled A bar e, scaled A bar p, mul-le-mul_right v top)
  line_smaller l u (over e h) (up v p) = absurd (omega arith)
  line_smaller l u (over e h) (down v p) = omega (arith, scaled A bar e, scaled A bar p, mul-le-mul_right v top)
  line_smaller l u (tie_with e h s) q = absurd (omega arith)
