-- The first i records are at their new quantities, and the others, recut, are as the definition leaves them.
use Rattle.std.proofs.Common.{◌≡◌, ◌++◌, take, drop}
use Rattle.book.specs.Cut.{recut}
use Rattle.ledger.proofs.cut.recut_by.Given as goal

abbrev pub invariant-loop-i : goal.invariant-loop-i
invariant-loop-i l = take l.i l.ledger ++ recut l.generator (drop l.i l.ledger) (drop l.i l.shares) ≡ recut l.generator l.initial.ledger l.shares
