-- `settle` meets its contract: a lent room of 32 places is written as far as the settlement lists figures, and any other is left. Assumes nothing.
use Rattle.std.proofs.Common.{◌++◌, drop, ap, ◌∙◌}
use Rattle.std.proofs.lemmas.Result.{err_from_is_err_and}
use Rattle.settlement.proofs.Written.{wrong_room, refused, given}
use Rattle.settlement.proofs.settling.settle.Goals as goal

pub returns-then-figures-ne-PLACES : goal.returns-then-figures-ne-PLACES
returns-then-figures-ne-PLACES c = wrong_room _ c.args.figures.now c.if-figures-ne-PLACES.true

pub returns-in_err-list : goal.returns-in_err-list
returns-in_err-list c =
    let p = err_from_is_err_and c.from_residual.result c.from_residual.ensures.1 in
    rw (p.1, p.2) (refused _ c.args.figures.now c.if-figures-ne-PLACES.false c.in_err-list.field-0.0 c.in_err-list.ensures)

pub returns : goal.returns
returns c =
    let room = c.args.figures.now in
    given _ room c.if-figures-ne-PLACES.false c.in_ok-list.list c.in_ok-list.ensures
    (ap (λ written. written ++ drop c.in_ok-list.list.count room) (c.copy_from_slice.ensures.after ∙ c.figures.ensures))
