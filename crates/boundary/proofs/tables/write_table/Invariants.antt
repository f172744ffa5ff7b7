-- The numbers of the first i values stand from the place on, W for each, and each value keeps to what its type says.
use Rattle.std.proofs.Common.{◌≡◌, ◌*◌, ◌≤◌, length, flat_map, take}
use Rattle.std.proofs.lemmas.List.Edits.{sets}
use Rattle.std.specs.List.{All}
use Rattle.boundary.proofs.tables.write_table.Given as goal

abbrev pub invariant-loop-i : goal.invariant-loop-i
invariant-loop-i g l =
    let numbers = g.T.Numbered.numbers in
    record {
      inside : l.i ≤ length l.table;
      long : length (flat_map numbers (take l.i l.table)) ≡ l.i * g.row.W;
      written : l.numbers ≡ sets l.fn.numbers l.at (flat_map numbers (take l.i l.table));
      keeps : All g.T.Numbered.keeps (take l.i l.table);
    }
