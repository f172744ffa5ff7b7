-- The levels of a part of the table, searched or changed as a list, against the definitions, which go from place to place. Assumes nothing.
use Rattle.std.proofs.Common.{◌≡◌, refl, sym, ap, ◌∙◌, Bool, ℕ, zero, suc, ◌+◌, ◌-◌, ◌≤◌, List, ◌∷◌, ◌++◌, length, take, drop, append_assoc, get_or, set, map, arith, add-one, add-zero, add-suc, drop-cons, length-drop}
use Rattle.std.proofs.Math.Bool.{or-false}
use Rattle.std.proofs.Math.Nat.{sub_self}
use Rattle.std.specs.List.{between, list_any}
use Rattle.std.proofs.lemmas.List.{set-append_right, take-append-drop, length-take-le, length-map, map-append, get_or-drop}
use Rattle.std.proofs.lemmas.List.Edits.{between_none, between_more, length-between}
use Rattle.std.proofs.lemmas.List.Folds.{list_any-append}
use borrow.Rule.Slice.PartMut.{put_mid}
use Rattle.book.specs.Reasons.{some}
use Rattle.book.specs.Steps.{changed}
use Rattle.ledger.specs.Judging.{blocks, blocked_in}

-- so many levels from a place on, searched
pub blocked_is : (creates : Bool) (q : ℕ) (lv : List ℕ) (from n : ℕ) → from + n ≤ length lv
    → list_any (blocks creates q) (between from (from + n) lv) ≡ blocked_in creates q lv from n
unfolding blocked_in some
blocked_is creates q lv from zero h = rw (add-zero, between_none)
blocked_is creates q lv from (suc n) h =
    rw (add-suc, ← add-one (from + n), between_more lv from (from + n) 0 (omega arith) (omega arith), list_any-append, blocked_is creates q lv from n (omega arith), or-false)

-- a part that is written as it was
pub unwritten : (lv : List ℕ) (from k : ℕ) → put_mid from k lv (take k (drop from lv)) ≡ lv
unwritten lv from k = ap (λ ys. take from lv ++ ys) (take-append-drop k (drop from lv)) ∙ take-append-drop from lv

-- and one of which each level is changed
pub changed_is : (f : ℕ → ℕ) (lv : List ℕ) (from n k : ℕ) → k ≡ n → from + n ≤ length lv → put_mid from k lv (map f (between from (from + n) lv)) ≡ changed f lv from n
unfolding changed
changed_is f lv from zero k e h = rw (e, add-zero, between_none) (take-append-drop from lv)
changed_is f lv from (suc n) k e h =
    let x : ℕ = get_or lv (from + n) 0 in
    let before : List ℕ = map f (between from (from + n) lv) in
    let after : List ℕ = drop (suc n) (drop from lv) in
    let at : drop n (drop from lv) ≡ x ∷ after = drop-cons (drop from lv) n 0 (omega (arith, length-drop from lv)) ∙ rw (get_or-drop from lv n 0) in
    let back : from + n - from ≡ n = omega arith in
    let long : length before ≡ n = length-map (between from (from + n) lv) f ∙ length-between lv from (from + n) (omega arith) ∙ back in
    let written : set (changed f lv from n) (from + n) (f x) ≡ take from lv ++ (before ++ f x ∷ after) =
    ap (λ ys. set ys (from + n) (f x)) (sym (changed_is f lv from n n refl (omega arith)))
    ∙ set-append_right (take from lv) (before ++ drop n (drop from lv)) from (from + n) (f x) (length-take-le from lv (omega arith)) (omega arith)
    ∙ ap (λ ys. take from lv ++ ys) (ap (λ m. set (before ++ drop n (drop from lv)) m (f x)) back ∙ ap (λ ys. set (before ++ ys) n (f x)) at
    ∙ set-append_right before (x ∷ after) n n (f x) long (omega arith) ∙ ap (λ m. before ++ set (x ∷ after) m (f x)) (sub_self n)) in
    rw (e, add-suc, ← add-one (from + n), between_more lv from (from + n) 0 (omega arith) (omega arith), map-append, append_assoc) (sym written)
