-- `tradeable` meets its contract: where there is a row, the levels of kinds 1 and 2 stand in two runs inside the table. Assumes nothing.
use Rattle.std.proofs.Common.{◌+◌, ◌/◌, sym, ◌∙◌, arith}
use Rattle.book.specs.Words.{tradeable_in}
use Rattle.credits.specs.Credits.{tradeable_at}
use Rattle.credits.proofs.Rows.{row_of}
use Rattle.credits.proofs.Runs.{kind_run}
use Rattle.credits.proofs.tradeable.Goals as goal

pub returns : goal.returns
unfolding tradeable_at tradeable_in
returns c =
    let s = c.args in
    let found = sym c.has_row.ensures ∙ c.if-not-has_row.false in
    let row = row_of s.levels.now s.days s.participant found in
    let first = c.over_days-ordinary.ensures.total ∙ kind_run row 1 (omega arith) (omega arith) (omega arith) in
    let second = c.over_days-contracted.ensures.total ∙ kind_run row 2 (omega arith) (omega arith) (omega arith) in
    rw found (c.by_days.ensures ∙ (λ i. (first i + second i) / s.days))
