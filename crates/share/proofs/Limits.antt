-- What is below the limit. Of a request that is not too large: each weight times the amount, with the total. Never too
-- large: up to 256 weights of up to 20,000,000 each and an amount of up to 100,000,000,000, which covers the operator's
-- cut (01) and the targeted cost (02, R-11).
use mathlib.Core.Path.{◌≡◌}
use mathlib.Core.Bool.{false}
use mathlib.Core.List.{List}
use Prim.Native.Nat.{ℕ, ◌+◌, ◌-◌, ◌*◌, ◌^◌, min, ◌≤◌, ◌<◌}
use native.Mathlib.Nat.{mul-le-mul, mul-le-mul_right}
use native.Mathlib.Omega.{arith}
use borrow.Author.Tests.{leb-false, lt-leb}
use lib.Dec.{leb}
use lib.ListN.{length}
use Rattle.std.proofs.lemmas.Bool.Decides.{nat_tests}
use Rattle.share.specs.Totals.{at, total, largest}
use Rattle.share.specs.Answers.{limit, too_large}
use Rattle.share.proofs.Sums.{total-at, sum_bound}
use Rattle.share.proofs.Largest.{le_largest, largest_le}

-- Each weight times the amount, with the total.
pub below_limit : (w : List ℕ) (c : ℕ) → too_large w c ≡ false → (i : ℕ) → i < length w → at w i * c + total w < limit
unfolding too_large
below_limit w c e i l =
    omega (arith, leb-false limit (largest (length w) (at w) * c + total w) e, mul-le-mul_right c (le_largest (length w) (at w) i l))

-- The total alone.
pub total_below : (w : List ℕ) (c : ℕ) → too_large w c ≡ false → total w < limit
unfolding too_large
total_below w c e = omega (arith, leb-false limit (largest (length w) (at w) * c + total w) e)

-- The test may count each part, and both, only as far as 64 bits hold.
pub counted : (p t : ℕ) → leb limit (min (min p (2 ^ 64 - 1) + min t (2 ^ 64 - 1)) (2 ^ 64 - 1)) ≡ leb limit (p + t)
counted p t = grind (arith, nat_tests)

-- The requests of both callers are never too large.
pub never_too_large : (w : List ℕ) (c : ℕ)
    → length w ≤ 256 → ((i : ℕ) → i < length w → at w i ≤ 20_000_000) → c ≤ 100_000_000_000 → too_large w c ≡ false
unfolding too_large
never_too_large w c few low h =
    lt-leb limit (largest (length w) (at w) * c + total w)
    (omega (
      arith,
      mul-le-mul (largest_le (length w) 20_000_000 (at w) low) h,
      total-at w,
      sum_bound (length w) 20_000_000 (at w) low,
    ))
