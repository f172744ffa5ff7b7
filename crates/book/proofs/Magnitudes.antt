-- The magnitude of a sum and of a difference of signed numbers, by their signs; a number that is not below zero is its magnitude. Assumes nothing.
use mathlib.Core.Path.{◌≡◌, refl}
use mathlib.Core.Bool.{Bool, true, false, cond, false≢true}
use Prim.Native.Nat.{ℕ, zero, suc, ◌+◌, ◌-◌, ◌≤◌}
use native.Mathlib.Nat.{le_refl}
use native.Mathlib.Omega.{arith}
use lib.Dec.{ltb}
use lib.IntN.{ℤ, pos, negsuc, neg_ℤ, nat_abs, sub_ℕ, ◌+ℤ◌, ◌-ℤ◌}
use lib.Signed.{le_z}
use borrow.Author.Tests.{leb-true, ltb-true}

pub abs_neg : (z : ℤ) → nat_abs (neg_ℤ z) ≡ nat_abs z
abs_neg (pos zero) = refl
abs_neg (pos (suc n)) = refl
abs_neg (negsuc n) = refl

-- a less b, of two quantities
abs-sub : (a b k : ℕ) → a ≤ k → b ≤ k → nat_abs (sub_ℕ a b) ≤ k
abs-sub a b k l m = by (ltb a b) refl
  where
    by : (t : Bool) → ltb a b ≡ t → nat_abs (cond t (negsuc (b - suc a)) (pos (a - b))) ≤ k
    by true e = omega (arith, ltb-true a b e)
    by false e = omega arith

pub abs_difference : (a b k : ℕ) → a ≤ k → b ≤ k → nat_abs (pos a -ℤ pos b) ≤ k
abs_difference a zero k l m = omega arith
abs_difference a (suc b) k l m = abs-sub a (suc b) k l m

pub abs-add : (x y : ℤ) → nat_abs (x +ℤ y) ≤ nat_abs x + nat_abs y
abs-add (pos a) (pos b) = le_refl (a + b)
abs-add (pos a) (negsuc b) = abs-sub a (suc b) (a + suc b) (omega arith) (omega arith)
abs-add (negsuc a) (pos b) = abs-sub b (suc a) (suc a + b) (omega arith) (omega arith)
abs-add (negsuc a) (negsuc b) = omega arith

pub abs_less : (x y : ℤ) → nat_abs (x -ℤ y) ≤ nat_abs x + nat_abs y
abs_less x y = omega (arith, abs-add x (neg_ℤ y), abs_neg y)

-- a number that is not below zero
pub abs_is : (z : ℤ) → le_z (pos 0) z ≡ true → pos (nat_abs z) ≡ z
abs_is (pos n) h = refl
abs_is (negsuc n) h = cc

pub abs_most : (z : ℤ) (k : ℕ) → le_z (pos 0) z ≡ true → le_z z (pos k) ≡ true → nat_abs z ≤ k
abs_most (pos n) k h m = leb-true n k m
abs_most (negsuc n) k h m = absurd (false≢true h)
