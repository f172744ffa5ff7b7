-- Comparable totals make each product fit 64 bits, and the distance of the two is the one written. Assumes nothing.
use Rattle.std.proofs.Common.{◌≡◌, ◌*◌, sym, ◌∙◌, arith}
use Rattle.share.specs.Totals.{at, total}
use Rattle.book.proofs.KeepsCut.{weight_at}
use Rattle.audit.specs.Measuring.{quantities_of}
use Rattle.audit.proofs.Measuring.{has_most, exact_most}
use Rattle.audit.proofs.nearness.miss_each.Goals as goal

pub overflow_mul-has : goal.overflow_mul-has
overflow_mul-has c =
    let s = c.args in
    let i = c.loop-i.i in
    let w = quantities_of s.generator s.before.now in
    let x = quantities_of s.generator s.after.now in
    let has : s.accepted * c.weight.result ≡ total w * at x i = λ k. c.requires.0 k * (c.weight.ensures ∙ sym (weight_at s.generator s.after.now i)) k in
    omega (arith, has, has_most w s.tradeable x c.ranges.tradeable.fits c.requires.1 i)

pub overflow_mul-exact : goal.overflow_mul-exact
overflow_mul-exact c =
    let s = c.args in
    let i = c.loop-i.i in
    let w = quantities_of s.generator s.before.now in
    let x = quantities_of s.generator s.after.now in
    let exact : c.weight-in-loop-i.result * c.from.result ≡ at w i * s.tradeable = λ k. (c.weight-in-loop-i.ensures ∙ sym (weight_at s.generator s.before.now i)) k * c.from.ensures k in
    omega (arith, exact, exact_most w s.tradeable x c.ranges.tradeable.fits c.requires.1 i)
