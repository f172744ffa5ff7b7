-- How the code tells a share's claim without dividing. A share that is rounded down, times the total of the weights, is
-- its exact share less its remainder; one that has its unit is above its exact share.
use mathlib.Core.Path.{◌≡◌, ap}
use mathlib.Core.List.{List}
use Prim.Native.Nat.{ℕ, ◌+◌, ◌-◌, ◌*◌, ◌≤◌, ◌<◌}
use native.Mathlib.Omega.{arith}
use lib.ListN.{length}
use Rattle.share.specs.Totals.{at, total}
use Rattle.share.specs.Shares.{exact, floor, remainder, claim}
use Rattle.share.proofs.OneShare.{Level, low, high, level}
use Rattle.share.proofs.CutOff.{exact_parts, cut_small}
use Rattle.share.proofs.Giving.{Given, claim_without, claim_with}

-- s is the total of the weights, and i an index.
module _ (w : List ℕ) (c left : ℕ) (x : List ℕ) (g : Given w c left x) (s : ℕ) (is : s ≡ total w) (i : ℕ) (l : i < length w) where
  -- The share as a multiple of s, and the exact share in its parts.
  products : {k : ℕ} → at x i ≡ k
      → (at x i * s ≡ k * s) × (floor w c i * s ≡ floor w c i * total w)
      × (total w * floor w c i + remainder w c i ≡ exact w c i) × (remainder w c i < total w)
  products e = (ap (λ m. m * s) e, ap (λ t. floor w c i * t) is, exact_parts w c i, cut_small w c x g.cut i)

  -- The product is at most the total above the exact share.
  pub held_le : at x i * s ≤ exact w c i + s
  held_le = go (level (g.cut.side i l))
    where
      go : Level g.cut.bar (floor w c i) (remainder w c i) (at x i) → at x i * s ≤ exact w c i + s
      go (low e _) = omega (arith, products e)
      go (high e _) = omega (arith, products e)

  -- Not above the exact share, it lacks the remainder.
  pub claim_open : at x i * s ≤ exact w c i → claim w c x i ≡ exact w c i - at x i * s + 1
  claim_open u = go (level (g.cut.side i l))
    where
      go : Level g.cut.bar (floor w c i) (remainder w c i) (at x i) → claim w c x i ≡ exact w c i - at x i * s + 1
      go (low e _) = omega (arith, products e, claim_without w c x i e)
      go (high e _) = absurd (omega (arith, products e))

  -- Above it, the share has its unit.
  pub claim_closed : exact w c i < at x i * s → claim w c x i ≡ 0
  claim_closed u = go (level (g.cut.side i l))
    where
      go : Level g.cut.bar (floor w c i) (remainder w c i) (at x i) → claim w c x i ≡ 0
      go (low e _) = absurd (omega (arith, products e))
      go (high e _) = claim_with w c x i e
