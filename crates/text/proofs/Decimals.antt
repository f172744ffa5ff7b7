-- The digits that `io::decimal` promises, the fewest that hold a number, are its decimal: both take the last digit off, and the fewest for the rest are
-- one fewer. Assumes nothing.
use mathlib.Core.Path.{◌≡◌, refl, ap, ◌∙◌}
use mathlib.Core.Bool.{Bool, true, false}
use mathlib.Core.List.{[], ◌∷◌, ◌++◌}
use Prim.Native.Nat.{ℕ, zero, suc, ◌+◌, ◌-◌, ◌/◌, ◌%◌, ◌^◌, ◌≤◌, ◌<◌}
use native.Mathlib.Nat.{pow-suc, mod-lt, mod-eq_of_lt, div-lt_iff_lt-mul, le-div_iff_mul-le, one-le-pow, pow-le-pow_right}
use native.Mathlib.Omega.{arith}
use lib.Dec.{leb, lit<, lit≤}
use borrow.Author.Tests.{lt-ltb, le-ltb, leb-true, leb-false}
use Rattle.io.specs.Digits.{hex_digit_ascii, last_digits, IsDigitCount}
use Rattle.text.specs.Lines.{written, decimal}

-- the unit of a number's highest digit
unit : (j : ℕ) → 10 ^ (suc j - 1) ≡ 10 ^ j
unit j = let low : suc j - 1 ≡ j = omega arith in ap (λ (k : ℕ). 10 ^ k) low

-- a number of two digits or more is at least 10
ten : (n j : ℕ) → IsDigitCount 10 1 n (suc (suc j)) → 10 ≤ n
ten n j f = omega (arith, one-le-pow j 10 (lit< tt), f.2 (omega arith), unit (suc j), pow-suc 10 j)

-- without its last digit it has one fewer
rest : (n j : ℕ) → IsDigitCount 10 1 n (suc (suc j)) → IsDigitCount 10 1 (n / 10) (suc j)
rest n j f = (
  omega arith,
  (div-lt_iff_lt-mul (lit< tt)).1 (rw pow-suc at f.1),
  λ more. (le-div_iff_mul-le (lit< tt)).1 (omega (arith, f.2 (omega arith), unit (suc j), unit j, pow-suc 10 j)),
)

-- a number has at most one digit more than its value
few : (n k : ℕ) → IsDigitCount 10 1 n k → k ≤ suc n
few n zero f = omega arith
few n (suc zero) f = omega arith
few n (suc (suc j)) f = omega (arith, few (n / 10) (suc j) (rest n j f), ten n j f)

-- a digit of base 10 is written by its ASCII code
code : (d : ℕ) → d < 10 → hex_digit_ascii d ≡ 48 + d
code d h = simp (lt-ltb d 10 h)

fewest_written : (n k most : ℕ) → IsDigitCount 10 1 n k → k ≤ most → last_digits 10 k n ≡ written most n
unfolding written
fewest_written n zero most f h = absurd (omega arith)
fewest_written n (suc k) zero f h = absurd (omega arith)
fewest_written n (suc zero) (suc most) f h =
    let small : n < 10 = f.1 in
    simp (lt-ltb n 10 small) (ap (λ (d : ℕ). d ∷ []) (ap hex_digit_ascii (mod-eq_of_lt small) ∙ code n small))
fewest_written n (suc (suc j)) (suc most) f h =
    simp (le-ltb n 10 (ten n j f)) ((λ i. fewest_written (n / 10) (suc j) most (rest n j f) (omega arith) i ++ code (n % 10) (mod-lt n (lit< tt)) i ∷ []))

pub fewest_decimal : (n k : ℕ) → IsDigitCount 10 1 n k → last_digits 10 k n ≡ decimal n
unfolding decimal
fewest_decimal n k f = fewest_written n k (suc n) f (few n k f)

-- a number of 64 bits has at most 20 digits
pub twenty : (n k : ℕ) → n < 2 ^ 64 → IsDigitCount 10 1 n k → k ≤ 20
twenty n k low f = by (leb k 20) refl
  where
    by : (t : Bool) → leb k 20 ≡ t → k ≤ 20
    by true e = leb-true k 20 e
    by false e =
        let more = leb-false k 20 e in
        let unit : 10 ^ 20 ≤ 10 ^ (k - 1) = pow-le-pow_right (lit< tt) {i = 20} {j = k - 1} (omega arith) in
        let high : 2 ^ 64 ≤ 10 ^ 20 = lit≤ tt in
        absurd (omega (arith, f.2 (omega arith)))
