-- The piece that a turn takes is the next record, and what one record leaves of the book so far is what one record more leaves of the first book
-- (`History`). Assumes nothing.
use Rattle.std.proofs.Common.{◌≡◌, ◌+◌, ◌*◌, ◌<◌, ◌++◌, ◌∷◌, [], min, length, drop, refl, sym, ap, ◌∙◌, arith, rules}
use Rattle.std.proofs.lemmas.List.{length_push, length-drop}
use Rattle.std.specs.Slice.Iter.{chunks_rest}
use Rattle.ledger.specs.Running.{records_in}
use Rattle.audit.specs.Following.{place_at}
use Rattle.audit.proofs.History.{piece, beyond, none, as_many, one_more}
use Rattle.audit.proofs.origin.follow.Goals as goal

pub loop-bytes-init : goal.loop-bytes-init
loop-bytes-init c = record {
  size = search rules;
  left = search rules;
  few = omega arith;
  place_is = omega arith;
  so_far = none _ _ _ _ _ _ refl refl (search rules);
}

pub loop-bytes-preserved : goal.loop-bytes-preserved
loop-bytes-preserved c =
    let history = c.args.history.now in
    let i = length c.loop-bytes.yielded in
    let bytes = c.in-Some.bytes.now in
    let steps = c.in-Some.ensures.steps in
    let inv = c.loop-bytes.invariant in
    let rest = chunks_rest c.next.new.self in
    let off : drop (i * 24) history ≡ bytes ++ rest = sym inv.left ∙ steps.1.0 in
    let long : length bytes ≡ min 24 (length (drop (i * 24) history)) = steps.1.1 ∙ (λ k. min (inv.size k) (length (inv.left k))) in
    let some : 0 < length (drop (i * 24) history) = omega (arith, steps.1.2, ap length inv.left) in
    let here : c.saturating_add-place.result ≡ place_at c.args.done i = omega (arith, c.saturating_add-place.ensures, inv.place_is) in
    let more : length (c.loop-bytes.yielded ++ c.in-Some.bytes ∷ []) ≡ i + 1 = length_push c.loop-bytes.yielded c.in-Some.bytes in
    record {
      size = steps.0 ∙ inv.size;
      left = beyond history i bytes rest off long ∙ ap (λ n. drop (n * 24) history) (sym more);
      few = omega (arith, more, some, length-drop (i * 24) history);
      place_is = omega (arith, more, here);
      so_far = as_many _ _ _ _ (sym more) (one_more _ _ _ _ inv.so_far (piece history i bytes rest off long) here c.follow_one.ensures);
    }

pub returns : goal.returns
returns c =
    let history = c.args.history.now in
    let i = length c.loop-bytes.yielded in
    let past : length (drop (i * 24) history) ≡ 0 = omega (arith, ap length c.loop-bytes.invariant.left, c.in-None.ensures.steps.1.0) in
    let all : i ≡ records_in history = omega (arith, length-drop (i * 24) history) in
    as_many _ _ _ _ all c.loop-bytes.invariant.so_far
