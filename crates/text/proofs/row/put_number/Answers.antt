-- The digits are the number's decimal, and the byte after them is one store more.
use Rattle.std.proofs.Common.{◌≡◌, ℕ, ◌+◌, ◌≤◌, ◌<◌, sym, ap, ◌∙◌, take, length, arith}
use Rattle.text.specs.Lines.{decimal}
use Rattle.text.proofs.Placing.{put_one, put_then}
use Rattle.text.proofs.Decimals.{fewest_decimal, twenty}
use Rattle.text.proofs.row.put_number.Goals as goal

pub returns : goal.returns
returns c =
    let few : c.decimal-k.result ≤ 20 = twenty c.args.n c.decimal-k.result c.ranges.n.fits c.decimal-k.ensures.len in
    let digits : take c.decimal-k.result c.decimal-k.new.out ≡ decimal c.args.n = c.decimal-k.ensures.digits ∙ fewest_decimal c.args.n c.decimal-k.result c.decimal-k.ensures.len in
    let ends : c.copy-to.result ≡ c.args.at + c.decimal-k.result = c.copy-to.ensures.ends ∙ ap (λ (k : ℕ). c.args.at + k) (sym c.decimal-k.ensures.in_bounds.1) in
    let room : c.copy-to.result < length c.copy-to.new.out = omega arith in
    let one = put_one c.copy-to.new.out c.copy-to.result c.args.end room in
    (put_then (omega arith) (rw digits at c.copy-to.ensures) one, omega arith)
