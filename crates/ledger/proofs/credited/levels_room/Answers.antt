-- A's roles are read from its account, and the rest is `on_levels`. Who has roles has an account.
use Rattle.std.proofs.Common.{◌≡◌, ◌∙◌, refl, sym, ap, false, eqb, arith}
use Rattle.std.proofs.lemmas.Result.{err_from_is_err_and}
use Rattle.book.specs.declared.Account.{Account}
use Rattle.ledger.proofs.Passed.{has_account}
use Rattle.ledger.proofs.LevelsDone.{kept, leaves}
use Rattle.ledger.proofs.credited.levels_room.Goals as goal

pub on_levels-requires : goal.on_levels-requires
on_levels-requires c =
    let known = λ (e : eqb c.get-roles.result.roles 0 ≡ false). has_account c.args.accounts.now c.args.x.participant (ap (λ (a : Account). eqb a.roles 0) (sym c.get-roles.ensures) ∙ e) in
    (c.requires.1.0, (c.requires.1.1, λ e. omega (arith, known e)))

pub returns-in_err-on_levels-clause-does : goal.returns-in_err-on_levels-clause-does
returns-in_err-on_levels-clause-does c =
    let a = c.args in
    let p = err_from_is_err_and c.from_residual.result c.from_residual.ensures.1 in
    rw (p.1, p.2) (kept a.month.now a.accounts.now a.levels.now a.x _ c.get-roles.ensures _ _ c.in_err-on_levels.ensures _ refl)

pub returns-clause-does : goal.returns-clause-does
returns-clause-does c =
    let a = c.args in
    leaves a.month.now a.accounts.now a.levels.now a.x _ c.get-roles.ensures _ _ c.in_ok-on_levels.ensures refl
