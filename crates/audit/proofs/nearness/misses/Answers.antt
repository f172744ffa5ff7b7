-- Past the limit nothing is measured, and below it no sum passes 64 bits (`Measuring`). Assumes nothing.
use Rattle.std.proofs.Common.{◌≡◌, ◌<◌, ◌^◌, length, ◌∙◌, arith, rules}
use Rattle.std.proofs.Math.ListN.{length-map}
use Rattle.std.specs.List.{sum}
use Rattle.book.specs.Words.{accepted_in}
use Rattle.audit.specs.Measuring.{quantities_of, Comparable}
use Rattle.audit.proofs.Measuring.{each_fits, unmeasured, too_much_before, too_much_after, measured}
use Rattle.audit.proofs.nearness.misses.Goals as goal
use Rattle.audit.proofs.nearness.misses.Goals.{then-accepted-gt-MOST-via-then-accepted-gt-MOST, then-accepted-gt-MOST-via-else-accepted-gt-MOST+then-accepted_of-gt-MOST}

pub returns-then-accepted-gt-MOST : goal.returns-then-accepted-gt-MOST
returns-then-accepted-gt-MOST c =
    let s = c.args in
    let w = quantities_of s.generator s.before.now in
    let x = quantities_of s.generator s.after.now in
    elim c.then-accepted-gt-MOST.branch [
      | then-accepted-gt-MOST-via-then-accepted-gt-MOST t ↦ unmeasured w s.tradeable x (too_much_before w s.tradeable x (omega arith))
      | then-accepted-gt-MOST-via-else-accepted-gt-MOST+then-accepted_of-gt-MOST t ↦ unmeasured w s.tradeable x (too_much_after w s.tradeable x (omega arith))
    ]

pub sum-sum-requires-clause-fits : goal.sum-sum-requires-clause-fits
sum-sum-requires-clause-fits c =
    let s = c.args in
    let w = quantities_of s.generator s.before.now in
    let x = quantities_of s.generator s.after.now in
    let fair : Comparable w x = record { before = omega arith; after = omega arith } in
    let long_before : length w ≡ 256 = length-map s.before.now (accepted_in s.generator) ∙ c.told-before in
    let long_after : length x ≡ 256 = length-map s.after.now (accepted_in s.generator) ∙ c.told-after in
    let fits : sum c.miss_each-each.result < 2 ^ 64 = each_fits w s.tradeable x _ c.ranges.tradeable.fits fair long_before long_after c.miss_each-each.ensures in
    search rules

pub returns : goal.returns
returns c =
    let s = c.args in
    let w = quantities_of s.generator s.before.now in
    let x = quantities_of s.generator s.after.now in
    let fair : Comparable w x = record { before = omega arith; after = omega arith } in
    let long : length w ≡ 256 = length-map s.before.now (accepted_in s.generator) ∙ c.told-before in
    let is : c.sum-sum.result ≡ sum c.miss_each-each.result = search rules in
    measured w s.tradeable x fair long _ _ _ (omega arith) c.miss_each-each.ensures is
