-- The first i weights are those of the first i records.
use Rattle.std.proofs.Common.{◌≡◌, map, take}
use Rattle.book.specs.Words.{accepted_in}
use Rattle.ledger.proofs.cut.weigh.Given as goal

abbrev pub invariant-loop-i : goal.invariant-loop-i
invariant-loop-i l = take l.i l.weights ≡ map (accepted_in l.generator) (take l.i l.ledger)
