-- A turn writes the numbers of one value more, where those of the values before it end. Assumes nothing.
use Rattle.std.proofs.Common.{◌≡◌, length, arith, rules, sym, ap, subst, ◌∙◌}
use Rattle.std.proofs.lemmas.List.Elements.{All-more}
use Rattle.boundary.proofs.Puts.{entry_long, entry_put}
use Rattle.boundary.proofs.tables.write_table.Goals as goal

pub loop-i-preserved : goal.loop-i-preserved
loop-i-preserved g c =
    let numbers = g.T.Numbered.numbers in
    let a = c.args in
    let l = c.loop-i in
    let x = c.index-table-i in
    let long : length c.numbers.result ≡ g.row.W = search rules in
    let wide : length (numbers x.result) ≡ g.row.W = sym (ap length c.numbers.ensures.numbers) ∙ long in
    record {
      inside = omega arith;
      long = entry_long numbers g.row.W a.numbers.now a.at a.table.now l.i x.result c.loop-i-test.true x.is wide l.invariant.long;
      written = entry_put numbers g.row.W a.numbers.now a.at a.table.now l.i x.result c.loop-i-test.true x.is wide l.invariant.long c.requires l.invariant.written (c.copy_from_slice.ensures.after ∙ c.numbers.ensures.numbers) (omega arith);
      keeps = All-more g.T.Numbered.keeps a.table.now l.i x.result c.loop-i-test.true l.invariant.keeps (subst g.T.Numbered.keeps x.is c.numbers.ensures.keeps);
    }
