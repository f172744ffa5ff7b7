-- A number that its field can hold: it is read as itself, and it fits the field's type. By the number's sign. Assumes nothing.
use mathlib.Core.Path.{◌≡◌, refl, sym, ap, subst, ◌∙◌}
use mathlib.Core.Bool.{true}
use Prim.Native.Nat.{ℕ, zero, suc, ◌≤◌}
use native.Mathlib.Omega.{arith}
use lib.Dec.{T}
use lib.IntN.{ℤ, pos, negsuc, nat_abs}
use lib.Signed.{le_z, non_neg}
use mir.Syntax.{w32, w64}
use mir.Val.{to_z, of_z, SFits}
use mir.ValLaws.{to_z-of_z}
use borrow.Author.Tests.{leb-true, le-leb}
use Rattle.book.proofs.Tests.{and_left, and_right}
use Rattle.units.specs.declared.Minutes.{Minutes}
use Rattle.book.specs.Book.{status_number}
use Rattle.boundary.specs.Numbers.{counted, least_minute, most_minute, minutes_in, most_status, status_of, asked_number}
use Rattle.boundary.specs.Readable.{fits_to, fits_minute, asked_reads}

-- ---- a field that holds 0 to most
-- what a number that fits is
pub record Counts (most : ℕ) (z : ℤ) : Type 0 where
  pub sign : T (non_neg z)
  pub low : nat_abs z ≤ most
  pub is : pos (nat_abs z) ≡ z

pub counts : (most : ℕ) (z : ℤ) → fits_to most z ≡ true → Counts most z
counts most (pos n) h = record { sign = tt; low = leb-true n most (and_right (le_z (pos 0) (pos n)) (le_z (pos n) (pos most)) h); is = refl }
counts most (negsuc n) h = absurd (subst T (sym h) tt)

pub counted_back : (most : ℕ) (z : ℤ) → fits_to most z ≡ true → pos (counted most z) ≡ z
counted_back most z h = rw h (counts most z h).is

pub counted_low : (most : ℕ) (z : ℤ) → fits_to most z ≡ true → counted most z ≤ most
counted_low most z h = rw h (counts most z h).low

-- ---- a field that holds a minute
pub minute_fits : (z : ℤ) → fits_minute z ≡ true → SFits w32 z
minute_fits (pos n) h = let l = leb-true n 2147483647 (and_right (le_z least_minute (pos n)) (le_z (pos n) most_minute) h) in record { sfits = omega arith }
minute_fits (negsuc n) h = let l = leb-true n 2147483647 (and_left (le_z least_minute (negsuc n)) (le_z (negsuc n) most_minute) h) in record { sfits = omega arith }

pub minute_back : (z : ℤ) → fits_minute z ≡ true → (minutes_in z).0 ≡ z
minute_back z h = rw h

-- ---- a status
pub status_back : (n : ℕ) (t : Minutes) → n ≤ most_status → status_number (status_of n t) ≡ n
status_back zero t o = refl
status_back (suc zero) t o = refl
status_back (suc (suc zero)) t o = refl
status_back (suc (suc (suc zero))) t o = refl
status_back (suc (suc (suc (suc zero)))) t o = refl
status_back (suc (suc (suc (suc (suc zero))))) t o = refl
status_back (suc (suc (suc (suc (suc (suc n)))))) t o = absurd (omega arith)

-- 0 is the only number in a field that holds no other
none : (z : ℤ) → fits_to 0 z ≡ true → pos 0 ≡ z
none z h = let k = counts 0 z h in let e : 0 ≡ nat_abs z = omega (arith, k.low) in ap pos e ∙ k.is

-- the minute of the asking
pub asked_back : (n : ℕ) (z : ℤ) → n ≤ most_status → asked_reads n z ≡ true → asked_number (status_of n (minutes_in z)) ≡ z
asked_back zero z o h = none z h
asked_back (suc zero) z o h = none z h
asked_back (suc (suc zero)) z o h = none z h
asked_back (suc (suc (suc zero))) z o h = none z h
asked_back (suc (suc (suc (suc zero)))) z o h = minute_back z h
asked_back (suc (suc (suc (suc (suc zero))))) z o h = none z h
asked_back (suc (suc (suc (suc (suc (suc n)))))) z o h = absurd (omega arith)

-- a minute that its type holds passes the test
pub fits_minute_lem : (z : ℤ) → SFits w32 z → fits_minute z ≡ true
fits_minute_lem (pos n) f = le-leb n 2147483647 (omega (arith, f.sfits))
fits_minute_lem (negsuc n) f = rw (le-leb n 2147483647 (omega (arith, f.sfits)))

-- ---- a minute in 64 bits
wide_fits : (z : ℤ) → SFits w32 z → SFits w64 z
wide_fits z f = record { sfits = omega (arith, f.sfits) }

module _ (z : ℤ) (f : SFits w32 z) where
  pub widens : SFits w64 (to_z w32 (of_z w32 z))
  widens = rw (to_z-of_z w32 z f) (wide_fits z f)

  pub widened : to_z w64 (of_z w64 (to_z w32 (of_z w32 z))) ≡ z
  widened = rw (to_z-of_z w32 z f, to_z-of_z w64 z (wide_fits z f))
