-- `listed` meets its contract: of the participants below p at most p are listed, so that there is a place left for the next. Assumes nothing.
use Rattle.std.proofs.Common.{true, false, not, ap, append-nil, arith}
use borrow.Author.Tests.{eq-eqb, ne_eqb}
use Rattle.settlement.proofs.Listed.{lists_none, lists_more, settled_most, settled_more}
use Rattle.settlement.specs.Listing.{figures_at, settled_from}
use Rattle.settlement.proofs.figures.Open.listed.Goals.{then-a-ne0, else-a-ne0}
use Rattle.settlement.proofs.figures.Open.listed.Goals as goal

pub loop-p-init : goal.loop-p-init
unfolding settled_from
loop-p-init c = lists_none c.none-list.ensures.0 c.none-list.ensures.1

pub push-requires : goal.push-requires
push-requires c =
    let a = c.args in
    let most = settled_most a.self.now.month a.self.now.levels.now a.accounts.now a.totals.now c.loop-p.p in
    omega (arith, c.loop-p.invariant.count_is)

pub loop-p-preserved : goal.loop-p-preserved
loop-p-preserved c =
    let o = c.args.self.now in
    let accounts = c.args.accounts.now in
    let totals = c.args.totals.now in
    let p = c.loop-p.p in
    let so_far = settled_from o.month o.levels.now accounts totals p in
    let most = settled_most o.month o.levels.now accounts totals p in
    let next = settled_more o.month o.levels.now accounts totals p in
    elim c.if-a-ne0.branch [
      | then-a-ne0 w ↦
          rw (w.list-is, next true (ap not (ne_eqb _ _ w.if-a-ne0.true)))
          (lists_more so_far (figures_at o.month o.levels.now accounts totals p) (omega arith) c.loop-p.invariant w.figures.ensures w.push.ensures)
      | else-a-ne0 w ↦ rw (w.list-is, next false (ap not (eq-eqb _ _ w.if-a-ne0.false)), append-nil) c.loop-p.invariant
    ]
