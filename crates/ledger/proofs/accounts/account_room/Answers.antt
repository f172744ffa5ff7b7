-- A's account is read and judged, and written back as the step leaves it where no reason applies.
use Rattle.std.proofs.Common.{refl, ap, ◌∙◌, arith}
use Rattle.std.proofs.lemmas.Result.{err_from_is_err_and}
use Rattle.sound.specs.declared.made.Totals.{Totals}
use Rattle.units.specs.declared.Net.{Net}
use Rattle.ledger.specs.Judging.{net_of}
use Rattle.ledger.proofs.AccountDone.{refused, inside, altered}
use Rattle.ledger.proofs.accounts.account_room.Goals as goal

pub returns-in_err-account_reason-clause-does : goal.returns-in_err-account_reason-clause-does
returns-in_err-account_reason-clause-does c =
    let s = c.args in
    let p = err_from_is_err_and c.from_residual.result c.from_residual.ensures.1 in
    rw (p.1, p.2) (refused s.month.now s.accounts.now s.totals.now s.x _ c.get.ensures _ c.in_err-account_reason.ensures _ refl)

pub bounds-accounts-i : goal.bounds-accounts-i
bounds-accounts-i c =
    let s = c.args in
    omega (arith, inside s.month.now s.accounts.now s.totals.now s.x _ c.get.ensures _ c.in_ok-account_reason.ensures c.requires refl)

pub returns-clause-does : goal.returns-clause-does
returns-clause-does c =
    let s = c.args in
    altered s.month.now s.accounts.now s.totals.now s.x _ c.get.ensures _ c.in_ok-account_reason.ensures c.requires refl
    (c.net_of.ensures ∙ ap (λ (y : Totals). let n : Net = record { 0 = net_of y } in n) c.totals_of.ensures) _ _ c.alter.ensures
