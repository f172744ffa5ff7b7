-- Signed machine arithmetic by magnitudes: a `Number` is bits, the number that they are read as, and a bound on its magnitude. There is one law for each
-- operation, so that the proof of an expression's safety and value mirrors the expression. Assumes nothing.
use mathlib.Core.Path.{◌≡◌, ◌∙◌}
use Prim.Native.Nat.{ℕ, ◌+◌, ◌*◌, ◌^◌, ◌≤◌}
use native.Mathlib.Nat.{le_refl, le_trans, lt_of_le_of_lt, mul-le-mul}
use native.Mathlib.Omega.{arith}
use Rattle.std.proofs.lemmas.Int.{unsigned_abs-mul}
use lib.Dec.{T, ltb, ltb→lt}
use lib.IntN.{ℤ, pos, negsuc, nat_abs, ◌+ℤ◌, ◌-ℤ◌, ◌*ℤ◌}
use lib.Signed.{mag}
use mir.Syntax.{Width}
use mir.Val.{to_z, of_z, SFits, hbits}
use mir.ValLaws.{to_z-of_z, to_z_pos}
use Rattle.book.proofs.Magnitudes.{abs-add, abs_less}

mag_most : (z : ℤ) → mag z ≤ nat_abs z
mag_most (pos n) = le_refl n
mag_most (negsuc n) = omega arith

pub record Number (w : Width) : Type 0 where
  pub held : ℕ
  pub value : ℤ
  pub most : ℕ
  pub is : to_z w held ≡ value
  pub low : nat_abs value ≤ most

-- a number fits where its bound does; at a bound that is a numeral, `tt`
pub fits : (w : Width) (z : ℤ) (most : ℕ) → nat_abs z ≤ most → T (ltb most (2 ^ hbits w)) → SFits w z
fits w z most low t = record { sfits = lt_of_le_of_lt (le_trans (mag_most z) low) (ltb→lt most (2 ^ hbits w) t) }

-- a local or a field that holds z
abbrev pub signed : (w : Width) (z : ℤ) (most : ℕ) → nat_abs z ≤ most → T (ltb most (2 ^ hbits w)) → Number w
signed w z most low t = record { held = of_z w z; value = z; most = most; is = to_z-of_z w z (fits w z most low t); low = low }

-- an unsigned number that was cast to a signed type
abbrev pub unsigned : (w : Width) (n most : ℕ) → n ≤ most → T (ltb most (2 ^ hbits w)) → Number w
unsigned w n most low t = record { held = n; value = pos n; most = most; is = to_z_pos w n (lt_of_le_of_lt low (ltb→lt most (2 ^ hbits w) t)); low = low }

abbrev pub literal : (w : Width) (n : ℕ) → T (ltb n (2 ^ hbits w)) → Number w
literal w n t = unsigned w n n (le_refl n) t

-- the same number, said otherwise
abbrev pub also : {w : Width} (p : Number w) (z : ℤ) → p.value ≡ z → Number w
also p z e = record { held = p.held; value = z; most = p.most; is = p.is ∙ e; low = rw (← e) p.low }

-- each operation: what it asks, and its value
module _ {w : Width} (p q : Number w) where
  pub mul_low : nat_abs (p.value *ℤ q.value) ≤ p.most * q.most
  mul_low = rw (unsigned_abs-mul p.value q.value) (mul-le-mul p.low q.low)

  pub add_low : nat_abs (p.value +ℤ q.value) ≤ p.most + q.most
  add_low = omega (arith, abs-add p.value q.value, p.low, q.low)

  pub sub_low : nat_abs (p.value -ℤ q.value) ≤ p.most + q.most
  sub_low = omega (arith, abs_less p.value q.value, p.low, q.low)

  pub mul_fits : T (ltb (p.most * q.most) (2 ^ hbits w)) → SFits w (to_z w p.held *ℤ to_z w q.held)
  mul_fits t = rw (p.is, q.is) (fits w (p.value *ℤ q.value) (p.most * q.most) mul_low t)

  pub add_fits : T (ltb (p.most + q.most) (2 ^ hbits w)) → SFits w (to_z w p.held +ℤ to_z w q.held)
  add_fits t = rw (p.is, q.is) (fits w (p.value +ℤ q.value) (p.most + q.most) add_low t)

  pub sub_fits : T (ltb (p.most + q.most) (2 ^ hbits w)) → SFits w (to_z w p.held -ℤ to_z w q.held)
  sub_fits t = rw (p.is, q.is) (fits w (p.value -ℤ q.value) (p.most + q.most) sub_low t)

  abbrev pub mul : T (ltb (p.most * q.most) (2 ^ hbits w)) → Number w
  mul t = record { held = of_z w (to_z w p.held *ℤ to_z w q.held); value = p.value *ℤ q.value; most = p.most * q.most; is = to_z-of_z w _ (mul_fits t) ∙ (λ i. p.is i *ℤ q.is i); low = mul_low }

  abbrev pub add : T (ltb (p.most + q.most) (2 ^ hbits w)) → Number w
  add t = record { held = of_z w (to_z w p.held +ℤ to_z w q.held); value = p.value +ℤ q.value; most = p.most + q.most; is = to_z-of_z w _ (add_fits t) ∙ (λ i. p.is i +ℤ q.is i); low = add_low }

  abbrev pub sub : T (ltb (p.most + q.most) (2 ^ hbits w)) → Number w
  sub t = record { held = of_z w (to_z w p.held -ℤ to_z w q.held); value = p.value -ℤ q.value; most = p.most + q.most; is = to_z-of_z w _ (sub_fits t) ∙ (λ i. p.is i -ℤ q.is i); low = sub_low }
