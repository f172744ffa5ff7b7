-- `doors::levels_reason` meets its contract: 2 and 4 come first of CREATE and TERMINATE alike. Assumes nothing.
use Rattle.std.proofs.Common.{arith}
use Rattle.std.proofs.lemmas.Grind.{common_steps}
use Rattle.reasons.specs.Chain.{when, first}
use Rattle.gate.proofs.Chains.{opened, one_door}
use Rattle.gate.proofs.doors.levels_reason.Goals as goal

pub returns-in_err-before_all : goal.returns-in_err-before_all
unfolding opened when first
returns-in_err-before_all c b m r = rw one_door (grind (arith, common_steps))
