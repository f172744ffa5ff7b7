-- The page has the lines of the participants passed, in their order. Assumes nothing.
use Rattle.std.proofs.Common.{◌≡◌}
use Rattle.printout.specs.Page.{gathered, with_figures}
use Rattle.printout.proofs.page.Page.participants.Given as goal

abbrev pub invariant-loop-f : goal.invariant-loop-f
invariant-loop-f l = gathered l.self ≡ with_figures l.figures l.f-index (gathered l.fn.self)
