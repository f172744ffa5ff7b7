-- `run` meets its contract: a readable book is the one that its numbers are read as, and what the run leaves of it is written back; any other book is refused.
-- Assumes nothing.
use Rattle.boundary.proofs.Said.{was_said}
use Rattle.boundary.proofs.Whole.{readable_long}
use Rattle.boundary.proofs.Handed.{handed}
use Rattle.boundary.proofs.calls.run.Goals as goal

pub write_book-requires : goal.write_book-requires
write_book-requires c = readable_long c.args.book.now (was_said c.args.book.now c.in-Some.ensures).0

pub returns : goal.returns
returns c =
    let a = c.args in
    let said = was_said a.book.now c.in-Some.ensures in
    handed a.book.now a.levels.now a.history.now a.answers.now said.0 (rw said.1 at c.run_whole-records.ensures) c.write_book.ensures
