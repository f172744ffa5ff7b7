-- Each level is a number of 32 bits. Assumes nothing.
use Rattle.std.proofs.Common.{◌≡◌, arith, rules}
use Rattle.std.specs.List.{sum}
use Rattle.credits.proofs.Runs.{sum_most}
use Rattle.credits.proofs.over_days.Goals as goal

pub returns-clause-most : goal.returns-clause-most
returns-clause-most c =
    let total : c.sum.result ≡ sum c.args.levels.now = search rules in
    omega (arith, sum_most c.args.levels.now c.type_inv.levels)
