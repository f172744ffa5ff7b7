-- Numbers and their bytes go into each other: what is written in n bytes reads the same, and what is read of n bytes writes them again.
-- Both by taking the highest byte off, over the count of bytes. Assumes nothing.
use mathlib.Core.Path.{◌≡◌, refl, sym, ap, ◌∙◌}
use mathlib.Core.List.{List, ◌∷◌}
use Prim.Native.Nat.{ℕ, zero, suc, ◌+◌, ◌*◌, ◌/◌, ◌%◌, ◌^◌, ◌<◌}
use native.Mathlib.Nat.{div-add-mod', mul-add-div_right, mul-add-mod_self_right, div-eq_of_lt, mod-eq_of_lt, pow-suc, one-le-pow, add-zero, mul-le-mul_right}
use native.Mathlib.Numerals.{add-one}
use native.Mathlib.Omega.{arith}
use lib.Dec.{lit<}
use lib.ListN.{length, get_or, drop}
use lib.Seq.{drop-cons, drop-length}
use Rattle.record.specs.Bytes.{part, number_of, bytes, AreBytes}

-- a number in n bytes has n of them
bytes_length : (n x : ℕ) → length (bytes n x) ≡ n
bytes_length zero x = refl
bytes_length (suc n) x = ap suc (bytes_length n (x % 256 ^ n))

-- written, then read: any number, in any count of bytes but none
pub written_reads : (n x : ℕ) → number_of (bytes (suc n) x) ≡ x
written_reads zero x = omega arith
written_reads (suc n) x =
    let rest = x % 256 ^ suc n in
    (λ i. x / 256 ^ suc n * 256 ^ bytes_length (suc n) rest i + written_reads n rest i) ∙ div-add-mod' x (256 ^ suc n)

-- n bytes of a file are n
part_length : (s : List ℕ) (at n : ℕ) → length (part s at n) ≡ n
part_length s at zero = refl
part_length s at (suc n) = ap suc (part_length s (at + 1) n)

-- the highest byte stands for its value times the unit of the others
top : (s : List ℕ) (at n : ℕ) → number_of (part s at (suc n)) ≡ get_or s at 0 * 256 ^ n + number_of (part s (at + 1) n)
top s at n = ap (λ (k : ℕ). get_or s at 0 * 256 ^ k + number_of (part s (at + 1) n)) (part_length s (at + 1) n)

module _ (s : List ℕ) (are-bytes : AreBytes s) where
  -- n bytes make a number below their unit
  pub number_low : (at n : ℕ) → number_of (part s at n) < 256 ^ n
  number_low at zero = lit< tt
  number_low at (suc n) =
      let low = number_low (at + 1) n in
      let b : get_or s at 0 < 256 = are-bytes at in
      omega (arith, top s at n, pow-suc 256 n, mul-le-mul_right (256 ^ n) b)

  -- read, then written
  pub read_writes : (at n : ℕ) → bytes n (number_of (part s at n)) ≡ part s at n
  read_writes at zero = refl
  read_writes at (suc n) =
      let b = get_or s at 0 in
      let rest = number_of (part s (at + 1) n) in
      let low = number_low (at + 1) n in
      let byte = ap (λ (k : ℕ). k / 256 ^ n) (top s at n) ∙ mul-add-div_right (one-le-pow n 256 (lit< tt)) b rest ∙ ap (λ (k : ℕ). b + k) (div-eq_of_lt low) ∙ add-zero b in
      let others = ap (λ (k : ℕ). k % 256 ^ n) (top s at n) ∙ mul-add-mod_self_right b (256 ^ n) rest ∙ mod-eq_of_lt low in
      λ i. byte i ∷ (ap (bytes n) others ∙ read_writes (at + 1) n) i

-- the last n bytes of a list, and so the whole list
last_part : (s : List ℕ) (at n : ℕ) → length s ≡ at + n → part s at n ≡ drop at s
last_part s at zero e =
    let all : at ≡ length s = omega arith in
    sym (ap (λ (k : ℕ). drop k s) all ∙ drop-length s)
last_part s at (suc n) e =
    let rest = last_part s (at + 1) n (omega arith) in
    ap (λ (l : List ℕ). get_or s at 0 ∷ l) (rest ∙ ap (λ (k : ℕ). drop k s) (add-one at)) ∙ sym (drop-cons s at 0 (omega arith))

pub whole : (s : List ℕ) (n : ℕ) → length s ≡ n → part s 0 n ≡ s
whole s n e = last_part s 0 n (omega arith)
