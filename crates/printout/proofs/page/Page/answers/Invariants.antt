-- The page has the lines of the records passed, in their order. Assumes nothing.
use Rattle.std.proofs.Common.{◌≡◌}
use Rattle.printout.specs.Page.{gathered, with_answers}
use Rattle.printout.proofs.page.Page.answers.Given as goal

abbrev pub invariant-loop-i : goal.invariant-loop-i
invariant-loop-i l = gathered l.self ≡ with_answers l.before l.words l.i (gathered l.fn.self)
