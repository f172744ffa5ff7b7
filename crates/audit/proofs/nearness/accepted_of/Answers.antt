-- A total that stops at what 64 bits hold. Assumes nothing.
use Rattle.std.proofs.Common.{◌≡◌, ◌-◌, ◌^◌, ℕ, ◌+◌, min, arith, rules}
use Rattle.std.specs.List.{fold}
use Rattle.audit.specs.Measuring.{quantities_of}
use Rattle.share.proofs.Sums.{total_capped}
use Rattle.audit.proofs.nearness.accepted_of.Goals as goal

pub returns : goal.returns
returns c =
    let w = quantities_of c.args.generator c.args.ledger.now in
    let run : c.fold.result ≡ fold (λ (a x : ℕ). min (a + x) (2 ^ 64 - 1)) 0 w = search rules in
    omega (arith, run, total_capped (2 ^ 64 - 1) 0 w (omega arith))
