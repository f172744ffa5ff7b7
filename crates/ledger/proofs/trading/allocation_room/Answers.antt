-- The record at the step's place is judged, and where no reason applies it is written anew and the totals are moved.
use Rattle.std.proofs.lemmas.Result.{err_from_is_err_and}
use Rattle.sound.specs.Check.{book_from}
use Rattle.gate.specs.Rooms.{allocation_step}
use Rattle.ledger.proofs.Doing.{refuses}
use Rattle.ledger.proofs.TradeDone.{inside, number_left, moves, traded}
use Rattle.ledger.proofs.trading.allocation_room.Goals as goal

pub returns-in_err-old-clause-does : goal.returns-in_err-old-clause-does
returns-in_err-old-clause-does c =
    let b = book_from c.args.month.now c.args.accounts.now c.args.levels.now c.args.ledger.now in
    let p = err_from_is_err_and c.from_residual.result c.from_residual.ensures.1 in
    rw (p.1, p.2) (refuses b (allocation_step c.args.x) _ c.in_err-old.ensures.reason c.args.totals.now c.requires.1)

pub move_totals-requires : goal.move_totals-requires
move_totals-requires c =
    let b = book_from c.args.month.now c.args.accounts.now c.args.levels.now c.args.ledger.now in
    moves b c.args.totals.now c.requires c.args.x c.in_ok-old.ensures.reason c.in_ok-old.ensures.at_place c.allocation_by-new.ensures

pub put-requires : goal.put-requires
put-requires c =
    let b = book_from c.args.month.now c.args.accounts.now c.args.levels.now c.args.ledger.now in
    rw c.place.ensures (inside b c.args.totals.now c.requires c.args.x c.in_ok-old.ensures.reason)

pub store-requires : goal.store-requires
store-requires c =
    let b = book_from c.args.month.now c.args.accounts.now c.args.levels.now c.args.ledger.now in
    number_left b c.args.totals.now c.requires c.args.x c.in_ok-old.ensures.reason

pub returns-clause-does : goal.returns-clause-does
returns-clause-does c =
    let b = book_from c.args.month.now c.args.accounts.now c.args.levels.now c.args.ledger.now in
    traded b c.args.totals.now c.requires c.args.x c.in_ok-old.ensures.reason c.in_ok-old.ensures.at_place c.allocation_by-new.ensures
    c.place.ensures c.move_totals.ensures c.put.ensures _ _ c.store.ensures.month c.store.ensures.number
