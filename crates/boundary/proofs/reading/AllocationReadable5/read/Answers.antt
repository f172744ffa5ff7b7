-- An allocation is read field by field, and the first field that cannot hold its number is where the test fails. Assumes nothing.
use Rattle.std.proofs.Common.{rules}
use Rattle.boundary.specs.Readable.{allocation_reads}
use Rattle.boundary.proofs.reading.AllocationReadable5.read.Goals as goal

pub returns-in_err-ok-3 : goal.returns-in_err-ok-3
unfolding allocation_reads
returns-in_err-ok-3 c = search rules

pub returns-in_err-status_of : goal.returns-in_err-status_of
unfolding allocation_reads
returns-in_err-status_of c = search rules

pub returns : goal.returns
unfolding allocation_reads
returns c = search rules
