-- The records of a file are its pieces of 24 bytes, and past the last whole one fewer bytes are left. Assumes nothing.
use Rattle.std.proofs.Common.{◌≡◌, ℕ, zero, suc, ◌+◌, ◌*◌, ◌/◌, ◌<◌, ◌≤◌, List, length, take, drop, get_or, length-take, length-drop, refl, ap, ◌∙◌, arith, None}
use Rattle.std.specs.Simd.{first_chunks}
use Rattle.std.proofs.lemmas.List.{drop-drop}
use Rattle.record.specs.Record.{decode_of}
use Rattle.record.proofs.Refusal.{long_refused}

-- piece n of the first k
pub piece : (k : ℕ) (s : List ℕ) (n : ℕ) (d : List ℕ) → n < k → get_or (first_chunks 24 k s) n d ≡ take 24 (drop (n * 24) s)
piece zero s n d h = absurd (omega arith)
piece (suc k) s zero d h = refl
piece (suc k) s (suc n) d h =
    let next : 24 + n * 24 ≡ suc n * 24 = omega arith in
    piece k (drop 24 s) n d (omega arith) ∙ ap (take 24) (drop-drop (n * 24) 24 s) ∙ ap (λ (i : ℕ). take 24 (drop i s)) next

-- past the last whole record
short : (s : List ℕ) (n : ℕ) → length s / 24 ≤ n → length (take 24 (drop (n * 24) s)) ≡ 24 → ⊥
short s n h e = omega (arith, length-take 24 (drop (n * 24) s), length-drop (n * 24) s)

pub past_refused : (s : List ℕ) (n : ℕ) → length s / 24 ≤ n → decode_of (take 24 (drop (n * 24) s)) ≡ None
past_refused s n h = long_refused (take 24 (drop (n * 24) s)) (short s n h)
