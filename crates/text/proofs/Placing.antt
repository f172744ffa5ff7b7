-- Text put into a buffer in pieces, each after the one before, is the whole text put there. Assumes nothing.
use mathlib.Core.Path.{◌≡◌, refl, sym, ap, ◌∙◌}
use mathlib.Core.Bool.{Bool, false, not}
use mathlib.Core.List.{List, [], ◌∷◌, ◌++◌, append_assoc}
use Prim.Native.Nat.{ℕ, ◌+◌, ◌≤◌, ◌<◌}
use native.Mathlib.Nat.{add-zero, add_assoc}
use native.Mathlib.Numerals.{add-one}
use lib.ListN.{length, take, drop, set, take-append-drop, length-append}
use lib.Seq.{length-take-le, take_at, drop-append-add, drop-drop, set_split}
use lib.Dec.{leb}
use borrow.Author.Tests.{leb-true, not-false}
use Rattle.text.specs.Lines.{placed, roomy, Put, Laid}

-- no text changes nothing
pub placed_none : (out : List ℕ) (at : ℕ) → placed out at [] ≡ out
placed_none out at = ap (λ (k : ℕ). take at out ++ drop k out) (add-zero at) ∙ take-append-drop at out

-- one byte is a store
pub placed_one : (out : List ℕ) (at x : ℕ) → at < length out → set out at x ≡ placed out at (x ∷ [])
placed_one out at x h = set_split out at x h ∙ ap (λ (k : ℕ). take at out ++ x ∷ drop k out) (sym (add-one at))

module _ (out : List ℕ) (at : ℕ) (inside : at ≤ length out) (a b : List ℕ) where
  -- what stands up to the end of the first piece
  abbrev front : List ℕ
  front = take at out ++ a

  front_length : length front ≡ at + length a
  front_length = length-append (take at out) a ∙ ap (λ (k : ℕ). k + length a) (length-take-le at out inside)

  -- the buffer with the first piece, cut at its end
  cut : placed out at a ≡ front ++ drop (at + length a) out
  cut = sym (append_assoc (take at out) a (drop (at + length a) out))

  beyond : drop (at + length a + length b) (placed out at a) ≡ drop (at + length a + length b) out
  beyond =
      ap (drop (at + length a + length b)) cut
      ∙ ap (λ (k : ℕ). drop (k + length b) (front ++ drop (at + length a) out)) (sym front_length)
      ∙ drop-append-add front (drop (at + length a) out) (length b)
      ∙ drop-drop (length b) (at + length a) out

  -- two pieces
  pub placed_more : placed (placed out at a) (at + length a) b ≡ placed out at (a ++ b)
  placed_more =
      ap (λ (l : List ℕ). l ++ (b ++ drop (at + length a + length b) (placed out at a))) (ap (take (at + length a)) cut ∙ take_at front (drop (at + length a) out) (at + length a) front_length)
      ∙ ap (λ (l : List ℕ). front ++ (b ++ l)) (beyond ∙ ap (λ (k : ℕ). drop k out) (add_assoc at (length a) (length b) ∙ ap (λ (k : ℕ). at + k) (sym (length-append a b))))
      ∙ append_assoc (take at out) a (b ++ drop (at + length (a ++ b)) out)
      ∙ ap (λ (l : List ℕ). take at out ++ l) (sym (append_assoc a b (drop (at + length (a ++ b)) out)))

-- ---- the same as what a function promises

pub put_none : (out : List ℕ) (at : ℕ) → Put out at [] out at
put_none out at = record { ends = sym (add-zero at); bytes = sym (placed_none out at) }

pub put_one : (out : List ℕ) (at x : ℕ) → at < length out → Put out at (x ∷ []) (set out at x) (at + 1)
put_one out at x h = record { ends = refl; bytes = placed_one out at x h }

pub put_then : {out out₁ out₂ a b : List ℕ} {at r₁ r₂ : ℕ} → at ≤ length out → Put out at a out₁ r₁ → Put out₁ r₁ b out₂ r₂ → Put out at (a ++ b) out₂ r₂
put_then {out} {out₁} {out₂} {a} {b} {at} {r₁} {r₂} inside p q = record {
  ends = q.ends ∙ ap (λ (k : ℕ). k + length b) p.ends ∙ add_assoc at (length a) (length b) ∙ ap (λ (k : ℕ). at + k) (sym (length-append a b));
  bytes = q.bytes ∙ (λ i. placed (p.bytes i) (p.ends i) b) ∙ placed_more out at inside a b;
}

-- ---- and by the test of the room

pub laid : {most : ℕ} {out line out' : List ℕ} {at r : ℕ} {roomy? : Bool} → roomy? ≡ roomy out at most → not roomy? ≡ false → Put out at line out' r → Laid most out at line out' r
laid {most} {out} {line} {out'} {at} {r} {roomy?} e h p =
    let some = sym e ∙ not-false roomy? h in
    record { ends = rw some p.ends; bytes = rw some p.bytes }

-- the room that was tested for
pub has_room : (at most length : ℕ) {roomy? : Bool} → roomy? ≡ leb (at + most) length → not roomy? ≡ false → at + most ≤ length
has_room at most length {roomy?} e h = leb-true (at + most) length (sym e ∙ not-false roomy? h)
