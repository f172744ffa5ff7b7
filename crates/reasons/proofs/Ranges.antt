-- A range that reaches as far below zero as above it is a bound on the magnitude, and a range of 0 alone is the test for 0. By the sign of the number.
-- Assumes nothing.
use mathlib.Core.Path.{◌≡◌, refl, sym, ◌∙◌}
use mathlib.Core.Bool.{◌&&◌, and-true}
use Prim.Native.Nat.{ℕ, zero, suc}
use lib.Dec.{eqb, leb, leb-zero, leb-suc-zero, leb-suc-suc, eqb-suc-zero}
use lib.IntN.{ℤ, pos, negsuc, neg_ℤ, nat_abs}
use lib.Signed.{le_z}

pub within_is : (k : ℕ) (z : ℤ) → (le_z (neg_ℤ (pos k)) z && le_z z (pos k)) ≡ leb (nat_abs z) k
within_is zero (pos n) = rw (leb-zero n)
within_is zero (negsuc n) = sym (leb-suc-zero n)
within_is (suc k) (pos n) = refl
within_is (suc k) (negsuc n) = and-true (leb n k) ∙ sym (leb-suc-suc n k)

pub at_most_none : (n : ℕ) → leb n 0 ≡ eqb n 0
at_most_none zero = refl
at_most_none (suc n) = leb-suc-zero n ∙ sym (eqb-suc-zero n)

pub none_is : (z : ℤ) → (le_z (pos 0) z && le_z z (pos 0)) ≡ eqb (nat_abs z) 0
none_is z = within_is 0 z ∙ at_most_none (nat_abs z)
