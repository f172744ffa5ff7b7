-- The numbers so far stand in the buffer, each with a space after it, in at most 21 bytes each.
use Rattle.std.proofs.Common.{◌+◌, ◌*◌, ◌≤◌, take}
use Rattle.std.specs.List.{flat_map}
use Rattle.text.specs.Lines.{Put}
use Rattle.text.proofs.Rows.{spaced}
use Rattle.text.proofs.row.put_row.Given as goal

abbrev pub invariant-loop-n : goal.invariant-loop-n
invariant-loop-n l = record {
  put : Put l.initial.out l.at (flat_map spaced (take l.n-index l.others)) l.out l.to;
  room : l.to ≤ l.at + 21 * l.n-index;
}
