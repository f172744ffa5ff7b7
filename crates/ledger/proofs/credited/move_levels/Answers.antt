-- One level more is moved in its place.
use Rattle.std.proofs.Common.{get_or, arith}
use Rattle.std.proofs.lemmas.List.{get_or_default}
use Rattle.std.proofs.lemmas.List.Edits.{map_over_more}
use Rattle.gate.specs.Rooms.{creates}
use Rattle.ledger.specs.Writing.{moved_by}
use Rattle.ledger.proofs.credited.move_levels.Goals as goal

pub loop-level-preserved : goal.loop-level-preserved
loop-level-preserved c =
    let l = c.loop-level in
    rw c.moved.ensures (map_over_more (moved_by (creates c.args.change) c.args.q) c.args.levels.now l.levels l.level-index (get_or l.levels l.level-index 0) (omega arith) l.invariant (get_or_default l.levels l.level-index 0 (get_or l.levels l.level-index 0) (omega arith)))
