-- The levels from the step's day to D are searched and changed as a part of the table.
use Rattle.std.proofs.Common.{◌≡◌, ◌∙◌, refl, sym, ap, ℕ, ◌+◌, ◌-◌, true, false, arith}
use borrow.Rule.Slice.PartMut.{put_mid}
use Rattle.ledger.specs.Judging.{blocked_in}
use Rattle.gate.specs.Rooms.{creates}
use Rattle.ledger.specs.Writing.{moved_by}
use Rattle.ledger.proofs.LevelRuns.{blocked_is, unwritten, changed_is}
use Rattle.ledger.proofs.credited.credit.Goals as goal

pub returns-then-any_blocked : goal.returns-then-any_blocked
returns-then-any_blocked c =
    let x = c.args.x in
    let lv = c.args.levels.now in
    let from : ℕ = c.level_place-from.result in
    let days : ℕ = c.args.m.days + 1 - x.day in
    let blocked : blocked_in (creates x.change) x.quantity.0 lv from days ≡ true = sym (blocked_is (creates x.change) x.quantity.0 lv from days (omega arith)) ∙ sym c.any_blocked.ensures ∙ c.if-any_blocked.true in
    rw (← c.level_place-from.ensures.0, blocked) (refl, unwritten lv from _)

pub returns : goal.returns
returns c =
    let x = c.args.x in
    let lv = c.args.levels.now in
    let from : ℕ = c.level_place-from.result in
    let days : ℕ = c.args.m.days + 1 - x.day in
    let blocked : blocked_in (creates x.change) x.quantity.0 lv from days ≡ false = sym (blocked_is (creates x.change) x.quantity.0 lv from days (omega arith)) ∙ sym c.any_blocked.ensures ∙ c.if-any_blocked.false in
    let moved = changed_is (moved_by (creates x.change) x.quantity.0) lv from days (from + days - from) (omega arith) (omega arith) in
    rw (← c.level_place-from.ensures.0, blocked) (refl, ap (put_mid from (from + days - from) lv) c.move_levels.ensures ∙ moved)
