-- A reason at the door is the first; else it is 15 or none.
use Rattle.std.proofs.Common.{arith}
use Rattle.std.proofs.lemmas.Grind.{common_steps}
use Rattle.std.proofs.lemmas.Result.{err_from_is_err_and}
use Rattle.reasons.specs.Chain.{when, first}
use Rattle.ledger.proofs.Doing.{refusing}
use Rattle.ledger.proofs.cutting.judge_cut.Goals as goal

pub returns-in_err-cut_reason : goal.returns-in_err-cut_reason
unfolding first
returns-in_err-cut_reason c b month roles =
    let p = err_from_is_err_and c.from_residual.result c.from_residual.ensures.1 in
    rw (p.1, p.2, ← c.in_err-cut_reason.ensures b month roles, refusing c.in_err-cut_reason.field-0.0)

pub returns : goal.returns
unfolding when first
returns c b month roles = rw (← c.in_ok-cut_reason.ensures b month roles) (grind (arith, common_steps))
