-- What a cap on a sum keeps: a sum that fits, a further sum, and the outcome of a test against anything below the cap.
-- Each is linear arithmetic on the lesser of two numbers. Assumes nothing.
use mathlib.Core.Path.{◌≡◌, ap}
use Prim.Native.Nat.{ℕ, ◌+◌, ◌-◌, ◌^◌, ◌≤◌, ◌<◌, min}
use native.Mathlib.Omega.{arith}
use lib.Dec.{leb, ltb}
use lib.Pow.{pow_pos}
use lib.IntN.{ℤ, pos, negsuc}
use mir.Syntax.{Width}
use mir.Val.{SFits, hbits}
use Rattle.std.proofs.lemmas.Bool.Decides.{nat_tests}
use Rattle.units.specs.Capped.{capped, capped_z, most_thousandths}

-- a sum of quantities that fits is itself
pub capped_fits : (n : ℕ) → n ≤ most_thousandths → capped n ≡ n
capped_fits n h = omega arith

-- a capped sum fits
pub capped_most : (n : ℕ) → capped n ≤ most_thousandths
capped_most n = omega arith

-- adding up one by one is adding up at once
pub capped_absorbs : (a b : ℕ) → capped (capped a + b) ≡ capped (a + b)
capped_absorbs a b = omega arith

-- a test against a limit below the cap does not see the cap
pub capped_leb : (n k : ℕ) → k < most_thousandths → leb (capped n) k ≡ leb n k
capped_leb n k h = grind (arith, nat_tests)

pub capped_ltb : (n k : ℕ) → k < most_thousandths → ltb k (capped n) ≡ ltb k n
capped_ltb n k h = grind (arith, nat_tests)

-- a sum of amounts or of times that fits is itself
pub capped_z_fits : (w : Width) (z : ℤ) → SFits w z → capped_z w z ≡ z
capped_z_fits w (pos n) f = let e : min n (2 ^ hbits w - 1) ≡ n = omega arith in ap pos e
capped_z_fits w (negsuc n) f = let e : min n (2 ^ hbits w - 1) ≡ n = omega arith in ap negsuc e

pub capped_z_held : (w : Width) (z : ℤ) → SFits w (capped_z w z)
capped_z_held w (pos n) = record { sfits = omega (arith, pow_pos (hbits w)) }
capped_z_held w (negsuc n) = record { sfits = omega (arith, pow_pos (hbits w)) }
