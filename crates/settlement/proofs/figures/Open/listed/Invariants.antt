-- After p turns the list is that of the participants below p.
use Rattle.settlement.specs.Listing.{settled_from}
use Rattle.settlement.specs.Lists.{Lists}
use Rattle.settlement.proofs.figures.Open.listed.Given as goal

abbrev pub invariant-loop-p : goal.invariant-loop-p
invariant-loop-p l = Lists l.list (settled_from l.self.month l.self.levels.now l.accounts l.totals l.p)
