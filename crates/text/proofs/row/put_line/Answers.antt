-- The room was there, and the numbers stand behind the mark.
use Rattle.std.proofs.Common.{ap, not, arith}
use Rattle.text.proofs.Placing.{laid, put_then, has_room}
use Rattle.text.proofs.row.put_line.Goals as goal

pub returns : goal.returns
returns c =
    let room = has_room c.args.at c.args.room _ c.has_room.ensures (ap not c.if-not-has_room.false) in
    laid c.has_room.ensures (ap not c.if-not-has_room.false) (put_then (omega arith) c.copy-to.ensures c.put_row.ensures)
