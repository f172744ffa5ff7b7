-- What the code multiplies stays below the limit and tells the claim, so that the index that the inner loop yields is
-- the next one: giving it one unit keeps what the outer loop promises, and with nothing left the shares are those of the
-- contract.
use Rattle.std.proofs.Common.{◌≡◌, ℕ, ◌+◌, ◌*◌, ◌<◌, ◌≤◌, List, length, ap, sym, ◌∙◌, arith, rules}
use Rattle.std.proofs.Math.Path.{ap₂, subst₂}
use Rattle.share.specs.declared.Request.{Request}
use Rattle.share.specs.Totals.{at, largest, first_largest}
use Rattle.share.specs.Shares.{floors, spare, claim, next, give_one, give, share_of}
use Rattle.share.specs.Answers.{limit}
use Rattle.share.proofs.Largest.{largest_keep, largest_new}
use Rattle.share.proofs.Giving.{Given, given_start, given_next, given_at_most, give_next, next_first}
use Rattle.share.proofs.Limits.{below_limit}
use Rattle.share.proofs.Search.{held_le, claim_open, claim_closed}
use Rattle.share.proofs.Request.give_spares.Goals as goal

module _ (r : Request) where
  -- At an index of the weights, what the code multiplies fits.
  exact_fits : (i : ℕ) → i < length r.weights.now → at r.weights.now i * r.amount + r.sum < limit
  exact_fits i l = omega (arith, below_limit r.weights.now r.amount r.fits i l)

  held_fits : {left : ℕ} {x : List ℕ} → Given r.weights.now r.amount left x → (i : ℕ) → i < length r.weights.now
      → at x i * r.sum < limit
  held_fits {left} {x} g i l =
      omega (arith, exact_fits i l, held_le r.weights.now r.amount left x g r.sum r.counted i l)

  -- Where the inner loop has passed all claims, it has the next one, with room for a unit.
  chosen : {left best i : ℕ} {x : List ℕ} → Given r.weights.now r.amount left x → 0 < left → i ≡ length r.weights.now
      → best ≡ first_largest i (claim r.weights.now r.amount x)
      → (best ≡ next r.weights.now r.amount x) × (best < length x) × (at x best + left ≤ r.amount)
  unfolding next
  chosen {left} {best} {i} {x} g some n e =
      let is : best ≡ next r.weights.now r.amount x = e ∙ ap (λ m. first_largest m (claim r.weights.now r.amount x)) n in
      let within : best < length r.weights.now = omega (arith, is, (next_first r.weights.now r.amount left x g some).below) in
      (is, omega (arith, g.long), given_at_most r.weights.now r.amount left x g best within)

  -- Before the first turn all spare units are left, and the shares are rounded down.
  started : {n : ℕ} {x : List ℕ} → n ≡ spare r.weights.now r.amount → x ≡ floors r.weights.now r.amount
      → Given r.weights.now r.amount n x × (give r.weights.now r.amount n x ≡ share_of r.weights.now r.amount)
  unfolding share_of
  started d e = (
    subst₂ (λ m y. Given r.weights.now r.amount m y) (sym d) (sym e)
        (given_start r.weights.now r.amount (omega (arith, r.counted))),
    ap₂ (give r.weights.now r.amount) d e,
  )

pub spares-init : goal.spares-init
spares-init c = started c.args.self c.requires.0 c.requires.1

pub loop-best-init : goal.loop-best-init
unfolding largest first_largest
loop-best-init c = search rules

pub overflow_mul-exact : goal.overflow_mul-exact
overflow_mul-exact c = omega (arith, exact_fits c.args.self c.loop-best.i (omega arith))

pub overflow_mul-held : goal.overflow_mul-held
overflow_mul-held c = omega (arith, held_fits c.args.self c.spares.invariant.0 c.loop-best.i (omega arith))

pub overflow_add-top : goal.overflow_add-top
overflow_add-top c = omega (arith, exact_fits c.args.self c.loop-best.i (omega arith))

pub loop-best-preserved : goal.loop-best-preserved
loop-best-preserved c =
    let w = c.args.self.weights.now in
    let a = c.args.self.amount in
    let x = c.spares.shares in
    let i = c.loop-best.i in
    let l : i < length w = omega arith in
    let k : ℕ → ℕ = claim w a x in
    let opened = claim_open w a c.spares.left x c.spares.invariant.0 c.args.self.sum c.args.self.counted i l in
    let closed = claim_closed w a c.spares.left x c.spares.invariant.0 c.args.self.sum c.args.self.counted i l in
    grind (arith, opened, closed, largest_new i k, largest_keep i k)

pub offset_bounds-shares-chosen : goal.offset_bounds-shares-chosen
offset_bounds-shares-chosen c =
    omega (arith, chosen c.args.self c.spares.invariant.0 (omega arith) c.if-i-self.true c.loop-best.invariant.1)

pub bounds-shares-chosen : goal.bounds-shares-chosen
bounds-shares-chosen c = (chosen c.args.self c.spares.invariant.0 (omega arith) c.if-i-self.true c.loop-best.invariant.1).1

pub overflow_add-shares : goal.overflow_add-shares
overflow_add-shares c =
    omega (arith, chosen c.args.self c.spares.invariant.0 (omega arith) c.if-i-self.true c.loop-best.invariant.1)

pub bounds-shares-chosen-in-spares : goal.bounds-shares-chosen-in-spares
bounds-shares-chosen-in-spares c =
    (chosen c.args.self c.spares.invariant.0 (omega arith) c.if-i-self.true c.loop-best.invariant.1).1

pub spares-preserved : goal.spares-preserved
unfolding give_one
spares-preserved c =
    let w = c.args.self.weights.now in
    let a = c.args.self.amount in
    let x = c.spares.shares in
    let n = chosen c.args.self c.spares.invariant.0 (omega arith) c.if-i-self.true c.loop-best.invariant.1 in
    rw n.0 (
      given_next w a c.spares.left x c.spares.invariant.0 (omega arith),
      give_next w a c.spares.left x (omega arith) ∙ c.spares.invariant.1,
    )

pub returns : goal.returns
unfolding give
returns c =
    let none : c.spares.left ≡ 0 = omega arith in
    ap (λ n. give c.args.self.weights.now c.args.self.amount n c.spares.shares) (sym none) ∙ c.spares.invariant.1
