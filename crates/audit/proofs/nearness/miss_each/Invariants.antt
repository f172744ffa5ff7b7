-- The first i distances stand. Assumes nothing.
use Rattle.std.proofs.Common.{◌≡◌, ℕ, ◌<◌, length}
use Rattle.share.specs.Totals.{at}
use Rattle.share.specs.Nearness.{miss}
use Rattle.audit.specs.Measuring.{quantities_of}
use Rattle.audit.proofs.nearness.miss_each.Given as goal

abbrev pub invariant-loop-i : goal.invariant-loop-i
invariant-loop-i l = record {
  long : length l.each ≡ 256;
  so_far : (k : ℕ) → k < l.i → at l.each k ≡ miss (quantities_of l.generator l.before) l.tradeable (quantities_of l.generator l.after) k;
}
