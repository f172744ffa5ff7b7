-- The inner loop's `best` and `top` are the first of the largest claims passed and that claim. What is left to give to
-- the shares as they are makes the shares of the contract, at each turn of the outer loop.
use Rattle.std.proofs.Common.{◌≡◌, ◌-◌, ◌≤◌, length}
use Rattle.share.specs.Totals.{largest, first_largest}
use Rattle.share.specs.Shares.{claim, give, share_of}
use Rattle.share.proofs.Giving.{Given}
use Rattle.share.proofs.Request.give_spares.Given as goal

abbrev pub invariant-loop-best : goal.invariant-loop-best
invariant-loop-best l =
    (l.i ≤ length l.self.weights.now) × (l.best ≡ first_largest l.i (claim l.self.weights.now l.self.amount l.shares))
    × (l.top ≡ largest l.i (claim l.self.weights.now l.self.amount l.shares))

abbrev pub decreases-loop-best : goal.decreases-loop-best
decreases-loop-best l = length l.self.weights.now - l.i

abbrev pub invariant-spares : goal.invariant-spares
invariant-spares l =
    Given l.self.weights.now l.self.amount l.left l.shares × (give l.self.weights.now l.self.amount l.left l.shares ≡ share_of l.self.weights.now l.self.amount)

abbrev pub decreases-spares : goal.decreases-spares
decreases-spares l = l.left
