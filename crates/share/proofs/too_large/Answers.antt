-- The library's largest is at least each weight and is one of them, or 0 for none. Where the weights alone reach the
-- limit so does the whole, and else their sum is their total. What is counted only as far as 64 bits hold reaches the
-- limit where the whole does, since the limit is below that.
use Rattle.std.proofs.Common.{◌≡◌, ℕ, ◌+◌, ◌-◌, ◌*◌, ◌^◌, ◌<◌, ◌≤◌, min, leb, length, ap, sym, ◌∙◌, arith, rules}
use Rattle.std.specs.List.{sum}
use Rattle.std.proofs.lemmas.Bool.{le-leb}
use Rattle.std.proofs.lemmas.Grind.{common_steps}
use Rattle.share.specs.Totals.{at, total, largest}
use Rattle.share.specs.Answers.{too_large, limit}
use Rattle.share.proofs.Sums.{total-sum}
use Rattle.share.proofs.Largest.{le_largest, largest_le}
use Rattle.share.proofs.Limits.{counted}
use Rattle.share.proofs.too_large.Goals as goal

pub returns-in_default : goal.returns-in_default
unfolding too_large
returns-in_default c =
    let w = c.args.weights.now in
    let reached : limit ≤ sum w = grind (arith, common_steps) in
    sym (le-leb limit (largest (length w) (at w) * c.args.amount + total w) (omega (arith, total-sum w)))

pub returns : goal.returns
unfolding too_large
returns c =
    let w = c.args.weights.now in
    let p : ℕ = largest (length w) (at w) * c.args.amount in
    let within : (i : ℕ) → i < length w → at w i ≤ c.unwrap_or-most.result = search rules in
    let least = largest_le (length w) c.unwrap_or-most.result (at w) within in
    let bounds = le_largest (length w) (at w) in
    let most : c.unwrap_or-most.result ≡ largest (length w) (at w) = grind (arith, common_steps, bounds, least) in
    let run : c.in-Some.sum ≡ sum w = search rules in
    let all : c.saturating_add.result ≡ min (min p (2 ^ 64 - 1) + min (total w) (2 ^ 64 - 1)) (2 ^ 64 - 1) =
    omega (arith, ap (λ n. n * c.args.amount) most, total-sum w) in
    ap (leb limit) all ∙ counted p (total w)
