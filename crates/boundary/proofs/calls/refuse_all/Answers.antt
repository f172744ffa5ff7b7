-- `refuse_all` meets its contract: the book that is handed on is never sound. Assumes nothing.
use Rattle.boundary.proofs.Handed.{refused}
use Rattle.boundary.proofs.calls.refuse_all.Goals as goal

pub returns : goal.returns
returns c = let a = c.args in refused a.levels.now a.history.now a.answers.now (rw (c.fresh_whole.ensures, c.fresh_month.ensures) at c.run_whole.ensures)
