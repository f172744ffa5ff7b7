-- The tests in the code are those of the answer, in their order. Where nothing is too large the sum of the weights is
-- their total, and the shares are written only where the request is shared, by the parts, whose contracts make them those
-- of `share_of`.
use Rattle.std.proofs.Common.{◌≡◌, ◌^◌, ◌<◌, length, replicate, ap, sym, ◌∙◌, arith, rules}
use Rattle.std.specs.List.{sum}
use Rattle.share.specs.Shares.{share_of}
use Rattle.share.specs.Answers.{settled}
use Rattle.share.proofs.Sums.{total-sum}
use Rattle.share.proofs.Limits.{total_below}
use Rattle.share.proofs.Promised.{nothing_shared}
use Rattle.share.proofs.Answered.{unweighted, answer_no_weight, settles, shared_when}
use Rattle.share.proofs.share.Goals as goal

pub returns-then-amount-eq0 : goal.returns-then-amount-eq0
returns-then-amount-eq0 c =
    let w = c.args.weights.now in
    let filled : c.fill.new.self ≡ replicate (length c.args.shares.now) 0 = search rules in
    let r = shared_when w c.args.amount c.args.shares.now c.if-shares-weights.false (sym c.too_large.ensures ∙ c.if-too_large.false) (λ p. omega arith) in
    (sym r.0, filled ∙ ap (λ n. replicate n 0) c.if-shares-weights.false ∙ sym (nothing_shared w) ∙ ap (share_of w) (sym c.if-amount-eq0.true) ∙ sym r.1)

pub sum-sum-requires-clause-fits : goal.sum-sum-requires-clause-fits
sum-sum-requires-clause-fits c =
    let w = c.args.weights.now in
    let fits : sum w < 2 ^ 64 = omega (arith, total-sum w, total_below w c.args.amount (sym c.too_large.ensures ∙ c.if-too_large.false)) in
    search rules

pub returns-then-sum-eq0 : goal.returns-then-sum-eq0
unfolding settled
returns-then-sum-eq0 c =
    let w = c.args.weights.now in
    let a = c.args.amount in
    let s : c.sum-sum.result ≡ sum w = search rules in
    let n = unweighted w a (omega arith) (total-sum w ∙ sym s ∙ c.if-sum-eq0.true) in
    let e = answer_no_weight w a c.args.shares.now c.if-shares-weights.false (sym c.too_large.ensures ∙ c.if-too_large.false) n in
    (sym e, sym (settles w a c.args.shares.now _ e))

pub invariant_of-request : goal.invariant_of-request
invariant_of-request c =
    let w = c.args.weights.now in
    let s : c.sum-sum.result ≡ sum w = search rules in
    record { counted = s ∙ sym (total-sum w); some = omega arith; fits = sym c.too_large.ensures ∙ c.if-too_large.false }

pub returns : goal.returns
returns c =
    let w = c.args.weights.now in
    let s : c.sum-sum.result ≡ sum w = search rules in
    let t = sym c.too_large.ensures ∙ c.if-too_large.false in
    let r = shared_when w c.args.amount c.args.shares.now c.if-shares-weights.false t (λ p. omega (arith, s, total-sum w)) in
    (sym r.0, c.give_spares.ensures ∙ sym r.1)
