-- What is written is the share rounded down, by the sum that is the total. No quotient is more than what is left, since
-- all of them total at most the amount.
use Rattle.std.proofs.Common.{◌≡◌, ◌+◌, ◌/◌, ◌*◌, length, ap, sym, ◌∙◌, arith, rules, below_more, get_or-set_other, get_or-set_same}
use Rattle.std.proofs.Math.Seq.{ext_get_or}
use Rattle.share.specs.Totals.{at, sum_to}
use Rattle.share.specs.Shares.{floor, floors, spare}
use Rattle.share.proofs.Sums.{sum_next, sum_fewer}
use Rattle.share.proofs.Giving.{floors-at, floors_long, floors-total, floors_le}
use Rattle.share.proofs.Limits.{below_limit}
use Rattle.share.proofs.Request.round_down.Goals as goal

pub loop-i-init : goal.loop-i-init
unfolding sum_to
loop-i-init c = search rules

pub overflow_mul-down : goal.overflow_mul-down
overflow_mul-down c =
    omega (arith, below_limit c.args.self.weights.now c.args.self.amount c.args.self.fits c.loop-i.i (omega arith))

pub overflow_sub-left : goal.overflow_sub-left
overflow_sub-left c =
    let w = c.args.self.weights.now in
    let a = c.args.self.amount in
    let i = c.loop-i.i in
    omega (
      arith,
      ap (λ t. at w i * a / t) c.args.self.counted,
      sum_next i (floor w a),
      sum_fewer (i + 1) (length w) (floor w a) (omega arith),
      floors_le w a (omega (arith, c.args.self.counted)),
    )

pub loop-i-preserved : goal.loop-i-preserved
loop-i-preserved c =
    let w = c.args.self.weights.now in
    let a = c.args.self.amount in
    let i = c.loop-i.i in
    let x = c.loop-i.shares in
    let quotient : at w i * a / c.args.self.sum ≡ floor w a i = ap (λ t. at w i * a / t) c.args.self.counted in (
      omega (arith, quotient, sum_next i (floor w a), overflow_sub-left c),
      below_more _ i
          (λ j o. get_or-set_other x i j _ 0 (omega arith) ∙ c.loop-i.invariant.1 j o)
          (get_or-set_same x i _ 0 (omega arith) ∙ quotient),
    )

pub returns : goal.returns
unfolding spare
returns c =
    let w = c.args.self.weights.now in
    let a = c.args.self.amount in
    let x = c.loop-i.shares in
    let e : c.loop-i.i ≡ length w = omega arith in
    let long : length x ≡ length w = omega arith in (
      omega (arith, ap (λ k. sum_to k (floor w a)) e, floors-total w a, floors_le w a (omega (arith, c.args.self.counted))),
      ext_get_or 0 x (floors w a) (long ∙ sym (floors_long w a))
          (λ j o. c.loop-i.invariant.1 j (omega arith) ∙ sym (floors-at w a j)),
    )
