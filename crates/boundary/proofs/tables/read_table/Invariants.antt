-- The first i values were read, each from its numbers.
use Rattle.std.proofs.Common.{◌≡◌, ◌≤◌, true, length, map, take}
use Rattle.std.specs.List.{list_all}
use Rattle.boundary.proofs.tables.read_table.Given as goal

abbrev pub invariant-loop-i : goal.invariant-loop-i
invariant-loop-i g l =
    let r = g.T.Readable in
    record {
      inside : l.i ≤ length l.numbers;
      long : length l.table ≡ g.row.N;
      reads : list_all r.reads (take l.i l.numbers) ≡ true;
      said : take l.i l.table ≡ map r.said (take l.i l.numbers);
    }
