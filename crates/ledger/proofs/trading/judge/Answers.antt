-- A reason at the door is the reason; else the participant that the step is judged by stands as the book has it, and the reason is the first of those that
-- are left.
use Rattle.std.proofs.lemmas.Result.{err_from_is_err_and}
use Rattle.sound.specs.Check.{book_from}
use Rattle.gate.specs.Rooms.{allocation_step}
use Rattle.gate.proofs.Split.{at_door}
use Rattle.ledger.proofs.Doing.{refusing}
use Rattle.ledger.proofs.Judgement.{at_place, door, late_fits, judged}
use Rattle.ledger.proofs.trading.judge.Goals as goal

pub returns-in_err-allocation_reason : goal.returns-in_err-allocation_reason
returns-in_err-allocation_reason c =
    let b = book_from c.args.m c.args.accounts.now c.args.levels.now c.args.ledger.now in
    let p = err_from_is_err_and c.from_residual.result c.from_residual.ensures.1 in
    let h = door b c.args.totals.now c.requires c.args.x c.place.ensures c.get-here.ensures c.get-roles.ensures c.customer_in.ensures c.get-customers.ensures c.in_err-allocation_reason.ensures in
    rw (p.1, p.2) (record { reason = at_door b (allocation_step c.args.x) _ h (refusing _); at_place = tt })

pub of-requires : goal.of-requires
of-requires c = record { ledger = c.args.ledger.now; ready = c.requires }

pub late-requires : goal.late-requires
late-requires c =
    let b = book_from c.args.m c.args.accounts.now c.args.levels.now c.args.ledger.now in
    let here = c.get-here.ensures in
    late_fits b c.args.totals.now c.requires c.args.x c.place.ensures here
    (door b c.args.totals.now c.requires c.args.x c.place.ensures here c.get-roles.ensures c.customer_in.ensures c.get-customers.ensures c.in_ok-allocation_reason.ensures)

pub returns-in_err-late : goal.returns-in_err-late
returns-in_err-late c =
    let b = book_from c.args.m c.args.accounts.now c.args.levels.now c.args.ledger.now in
    let p = err_from_is_err_and c.from_residual-in_err-late.result c.from_residual-in_err-late.ensures.1 in
    let here = c.get-here.ensures in
    let none = door b c.args.totals.now c.requires c.args.x c.place.ensures here c.get-roles.ensures c.customer_in.ensures c.get-customers.ensures c.in_ok-allocation_reason.ensures in
    rw (p.1, p.2) (record { reason = judged b c.args.totals.now c.requires c.args.x c.place.ensures here none c.judged_by.ensures c.of.ensures c.in_err-late.ensures; at_place = tt })

pub returns : goal.returns
returns c =
    let b = book_from c.args.m c.args.accounts.now c.args.levels.now c.args.ledger.now in
    let here = c.get-here.ensures in
    let none = door b c.args.totals.now c.requires c.args.x c.place.ensures here c.get-roles.ensures c.customer_in.ensures c.get-customers.ensures c.in_ok-allocation_reason.ensures in
    record {
      reason = judged b c.args.totals.now c.requires c.args.x c.place.ensures here none c.judged_by.ensures c.of.ensures c.in_ok-late.ensures;
      at_place = at_place b c.args.totals.now c.requires c.args.x c.place.ensures here;
    }
