-- A month is read field by field, and the first field that cannot hold its number is where the test fails. Assumes nothing.
use Rattle.std.proofs.Common.{rules}
use Rattle.boundary.specs.Readable.{month_reads}
use Rattle.boundary.proofs.reading.MonthReadable12.read.Goals as goal

pub returns-in_err-minutes_of : goal.returns-in_err-minutes_of
unfolding month_reads
returns-in_err-minutes_of c = search rules

pub returns-in_err-ok-2 : goal.returns-in_err-ok-2
unfolding month_reads
returns-in_err-ok-2 c = search rules

pub returns-in_err-window_of : goal.returns-in_err-window_of
unfolding month_reads
returns-in_err-window_of c = search rules

pub returns-in_err-window_of-2 : goal.returns-in_err-window_of-2
unfolding month_reads
returns-in_err-window_of-2 c = search rules

pub returns-in_err-window_of-3 : goal.returns-in_err-window_of-3
unfolding month_reads
returns-in_err-window_of-3 c = search rules

pub returns-in_err-window_of-4 : goal.returns-in_err-window_of-4
unfolding month_reads
returns-in_err-window_of-4 c = search rules

pub returns : goal.returns
unfolding month_reads
returns c = search rules
