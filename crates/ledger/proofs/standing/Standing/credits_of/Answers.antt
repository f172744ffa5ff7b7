-- Of levels that fit the credits are at most 20,000,000, and document 01's.
use Rattle.std.proofs.Common.{◌∙◌, arith}
use Rattle.credits.proofs.Rows.{tradeable_at_lem}
use Rattle.credits.proofs.Sums.{tradeable_most}
use Rattle.ledger.proofs.standing.Standing.credits_of.Goals as goal

pub overflow_cast-result : goal.overflow_cast-result
overflow_cast-result c =
    let s = c.args.self.now in
    omega (arith, c.tradeable.ensures, tradeable_most s.levels.now s.month.days c.args.participant s.levels_fit.low)

pub returns : goal.returns
returns c =
    let s = c.args.self.now in
    c.tradeable.ensures ∙ tradeable_at_lem s.levels.now s.month.days c.args.participant s.levels_fit.long s.month_fits.days
