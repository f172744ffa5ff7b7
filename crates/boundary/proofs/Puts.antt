-- What is written over a part of a list, from a place on. A part that is copied over is a run of stores (`put_sets`), a run goes on where another ended
-- (`sets_append`), and so the numbers of a table's values stand one after the other (`entry_put`). Assumes nothing.
use Rattle.std.proofs.Common.{◌≡◌, ℕ, ◌+◌, ◌*◌, ◌≤◌, ◌<◌, suc, List, [], ◌∷◌, ◌++◌, length, take, drop, get_or, flat_map, sym, ap, ◌∙◌, arith, append-nil, append_assoc, length-append}
use Rattle.std.proofs.lemmas.List.Edits.{sets, sets-eq}
use Rattle.std.proofs.lemmas.List.{drop-drop, take_more}
use Rattle.std.proofs.lemmas.List.Concat.{flat_map-append}
use Rattle.std.proofs.lemmas.Nat.{row_fits}
use Rattle.std.proofs.Math.Seq.{length-sets}
use borrow.Rule.Slice.PartMut.{put_mid}
use native.Mathlib.Nat.{add-zero, add-suc, suc-add}
use lib.ListN.{set}

-- a run of stores that goes on where another ended
pub sets_append : {A : Type 0} (xs ys l : List A) (i : ℕ) → sets (sets l i xs) (i + length xs) ys ≡ sets l i (xs ++ ys)
sets_append [] ys l i = ap (λ k. sets l k ys) (add-zero i)
sets_append (a ∷ xs) ys l i =
    ap (λ k. sets (sets l i (a ∷ xs)) k ys) (add-suc i (length xs) ∙ sym (suc-add i (length xs))) ∙ sets_append xs ys (set l i a) (suc i)

-- a part that is copied over
pub put_sets : {A : Type 0} (l vs : List A) (at k : ℕ) → k ≡ length vs → at + k ≤ length l → put_mid at k l vs ≡ sets l at vs
put_sets l vs at k e o = simp (drop-drop, e) (sym (sets-eq vs l at (omega arith) ∙ append_assoc (take at l) vs (drop (at + length vs) l)))

-- the numbers of value i of a table, after those of the values before it
module _ {E T : Type 0} (f : T → List E) (w : ℕ) (l : List E) (at : ℕ) (table : List T) (i : ℕ) (x : T) (in' : i < length table) (read : x ≡ get_or table i x) where
  more : flat_map f (take (i + 1) table) ≡ flat_map f (take i table) ++ f x
  more =
      ap (flat_map f) (take_more table i x in')
      ∙ flat_map-append f (take i table) (get_or table i x ∷ [])
      ∙ ap (λ r. flat_map f (take i table) ++ r) (append-nil (f (get_or table i x)) ∙ ap f (sym read))

  module _ (wide : length (f x) ≡ w) (before : length (flat_map f (take i table)) ≡ i * w) where
    pub entry_long : length (flat_map f (take (i + 1) table)) ≡ (i + 1) * w
    entry_long = ap length more ∙ omega (arith, length-append (flat_map f (take i table)) (f x))

    pub entry_put : {l' vs : List E} {k : ℕ} → at + length table * w ≤ length l → l' ≡ sets l at (flat_map f (take i table)) → vs ≡ f x → k ≡ w
        → put_mid (at + i * w) k l' vs ≡ sets l at (flat_map f (take (i + 1) table))
    entry_put {l'} {vs} {k} room e g h =
        let so_far = flat_map f (take i table) in
        put_sets l' vs (at + i * w) k (h ∙ sym (ap length g ∙ wide)) (omega (arith, ap length e ∙ length-sets l at so_far, row_fits i w (length table) w in' (omega arith)))
        ∙ (λ j. sets (e j) ((ap (λ n. at + n) (sym before)) j) (g j))
        ∙ sets_append so_far (f x) l at
        ∙ ap (sets l at) (sym more)
