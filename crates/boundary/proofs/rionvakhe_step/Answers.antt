-- `rionvakhe_step` meets its contract: a record of 24 bytes is a history of one record, and one of another length is refused. Assumes nothing.
use borrow.Author.Tests.{ne_eqb}
use Rattle.boundary.proofs.Handed.{short, stepped}
use Rattle.boundary.proofs.rionvakhe_step.Goals as goal

pub returns-then-record-ne-RECORD_BYTES : goal.returns-then-record-ne-RECORD_BYTES
returns-then-record-ne-RECORD_BYTES c = let a = c.args in short a.book.now a.levels.now a.«record».now (ne_eqb _ _ c.if-record-ne-RECORD_BYTES.true)

pub returns : goal.returns
returns c = let a = c.args in stepped a.book.now a.levels.now a.«record».now c.if-record-ne-RECORD_BYTES.false c.run.ensures
