-- The records before a piece, of 24 bytes each, stand before what is left of the month. Assumes nothing.
use Rattle.std.proofs.Common.{◌+◌, ◌*◌, ◌≤◌, length}
use Rattle.std.specs.Slice.Iter.{chunks_rest}
use Rattle.printout.proofs.print_history.Given as goal

abbrev pub invariant-loop-piece : goal.invariant-loop-piece
invariant-loop-piece l = l.before * 24 + length (chunks_rest l.piece-iterator) ≤ length l.history
