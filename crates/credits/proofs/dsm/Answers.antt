-- `dsm` meets its contract: where there is a row, the levels of kind 4 stand in one run inside the table. Assumes nothing.
use Rattle.std.proofs.Common.{◌/◌, sym, ap, ◌∙◌, arith}
use Rattle.credits.specs.Credits.{dsm_in, dsm_at}
use Rattle.credits.proofs.Rows.{row_of}
use Rattle.credits.proofs.Runs.{kind_run}
use Rattle.credits.proofs.dsm.Goals as goal

pub returns : goal.returns
unfolding dsm_at dsm_in
returns c =
    let s = c.args in
    let found = sym c.has_row.ensures ∙ c.if-not-has_row.false in
    let row = row_of s.levels.now s.days s.participant found in
    let run = c.over_days.ensures.total ∙ kind_run row 4 (omega arith) (omega arith) (omega arith) in
    rw found (c.by_days.ensures ∙ ap (λ n. n / s.days) run)
