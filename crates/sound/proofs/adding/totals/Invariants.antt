-- `totals` meets its contract. The invariant: the totals are those of the records so far. Assumes nothing.
use Rattle.std.proofs.Common.{take}
use Rattle.sound.specs.Check.{CappedTotals}
use Rattle.sound.proofs.adding.totals.Given as goal

abbrev pub invariant-loop-l : goal.invariant-loop-l
invariant-loop-l l = CappedTotals l.totals (take l.l-index l.ledger)
