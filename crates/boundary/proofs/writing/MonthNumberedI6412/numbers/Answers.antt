-- Each of the twelve numbers is its field's, widened. Assumes nothing.
use Rattle.std.proofs.Common.{rules}
use Rattle.boundary.proofs.writing.MonthNumberedI6412.numbers.Goals as goal

pub returns-clause-numbers : goal.returns-clause-numbers
returns-clause-numbers c = search rules fits 20000

pub returns-clause-keeps : goal.returns-clause-keeps
returns-clause-keeps c = search rules fits 20000
