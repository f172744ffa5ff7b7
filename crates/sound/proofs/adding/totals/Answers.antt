-- With no record every total is 0, and a turn adds what one record more has. Assumes nothing.
use Rattle.std.proofs.Common.{get_or, arith}
use Rattle.std.proofs.lemmas.List.{take_more}
use Rattle.book.specs.Book.{no_allocation}
use Rattle.sound.proofs.Tally.{no_records, one_more}
use Rattle.sound.proofs.adding.totals.Goals as goal

pub loop-l-init : goal.loop-l-init
loop-l-init c = no_records

pub loop-l-preserved : goal.loop-l-preserved
loop-l-preserved c =
    let ledger = c.args.ledger.now in
    let i = c.loop-l.l-index in
    rw (c.add_in.ensures, take_more ledger i no_allocation (omega arith)) (one_more (get_or ledger i no_allocation) c.loop-l.invariant)
