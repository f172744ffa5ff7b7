-- The shares passed are rounded down, and they and what is left make up the amount.
use Rattle.std.proofs.Common.{◌≡◌, ℕ, ◌+◌, ◌<◌}
use Rattle.share.specs.Totals.{at, sum_to}
use Rattle.share.specs.Shares.{floor}
use Rattle.share.proofs.Request.round_down.Given as goal

abbrev pub invariant-loop-i : goal.invariant-loop-i
invariant-loop-i l =
    (l.left + sum_to l.i (floor l.self.weights.now l.self.amount) ≡ l.self.amount)
    × ((j : ℕ) → j < l.i → at l.shares j ≡ floor l.self.weights.now l.self.amount j)
