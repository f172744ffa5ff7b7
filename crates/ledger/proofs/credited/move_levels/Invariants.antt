-- The levels passed are moved, and the others are as they were.
use Rattle.std.proofs.Common.{◌≡◌, ◌++◌, map, take, drop}
use Rattle.gate.specs.Rooms.{creates}
use Rattle.ledger.specs.Writing.{moved_by}
use Rattle.ledger.proofs.credited.move_levels.Given as goal

abbrev pub invariant-loop-level : goal.invariant-loop-level
invariant-loop-level l = l.levels ≡ map (moved_by (creates l.change) l.q) (take l.level-index l.initial.levels) ++ drop l.level-index l.initial.levels
