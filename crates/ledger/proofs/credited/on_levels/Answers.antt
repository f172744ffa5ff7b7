-- Refused at the door, or let in with its numbers inside their ranges, a step ends as document 01 says.
use Rattle.std.proofs.Common.{refl}
use Rattle.std.proofs.lemmas.Result.{err_from_is_err_and}
use Rattle.ledger.proofs.Doing.{refusing}
use Rattle.ledger.proofs.LevelsDone.{fits, refused, credited}
use Rattle.ledger.proofs.credited.on_levels.Goals as goal

pub returns-in_err-levels_reason : goal.returns-in_err-levels_reason
returns-in_err-levels_reason c =
    let a = c.args in
    let p = err_from_is_err_and c.from_residual.result c.from_residual.ensures.1 in
    rw (p.1, p.2) (refused a.m a.roles a.x _ c.in_err-levels_reason.ensures a.levels.now (refusing _))

pub credit-requires : goal.credit-requires
credit-requires c = (c.requires.0, fits c.args.m c.args.roles c.args.x _ c.in_ok-levels_reason.ensures c.requires.1.0 c.requires.1.1 refl)

pub returns : goal.returns
returns c =
    let a = c.args in
    let door = c.in_ok-levels_reason.ensures in
    credited a.m a.roles a.x _ door refl (fits a.m a.roles a.x _ door c.requires.1.0 c.requires.1.1 refl) a.levels.now _ _ c.credit.ensures
