-- A turn puts the next number with its space after those before it, and the last number follows with the newline.
use Rattle.std.proofs.Common.{◌≡◌, List, ℕ, ◌++◌, ◌∷◌, [], ◌∙◌, sym, ap, take, arith}
use Rattle.std.proofs.lemmas.List.{take_all, nil_from_length}
use Rattle.std.specs.List.{flat_map}
use Rattle.text.specs.Lines.{newline, decimal, row}
use Rattle.text.proofs.Placing.{put_none, put_then}
use Rattle.text.proofs.Rows.{spaced, row_is, spaced_more}
use Rattle.text.proofs.row.put_row.Goals as goal

pub returns-in_default : goal.returns-in_default
unfolding row
returns-in_default c =
    let none : c.args.numbers.now ≡ [] = nil_from_length c.args.numbers.now (c.in_default.ensures.cases) in
    rw none (put_none c.args.out.now c.args.at)

pub loop-n-preserved : goal.loop-n-preserved
loop-n-preserved c =
    let others = c.in-Some.others.now in
    let i = c.loop-n.n-index in
    let more = spaced_more others i (omega arith) in
    record {
      put = rw more (put_then (omega arith) c.loop-n.invariant.put c.put_number-to.ensures.0);
      room = omega arith;
    }

pub returns : goal.returns
returns c =
    let others = c.in-Some.others.now in
    let last = c.in-Some.last.now in
    let all : take c.loop-n.n-index others ≡ others = take_all c.loop-n.n-index others (omega arith) in
    let is : row c.args.numbers.now ≡ flat_map spaced (take c.loop-n.n-index others) ++ (decimal last ++ newline ∷ []) =
    ap row (c.in-Some.ensures.cases.0) ∙ row_is others last ∙ ap (λ (l : List ℕ). flat_map spaced l ++ (decimal last ++ newline ∷ [])) (sym all) in
    rw is (put_then (omega arith) c.loop-n.invariant.put c.put_number.ensures.0)
