-- The book is checked first. Where it may be used, the totals that come with the check are those of its ledger and the step is `do_step`'s; where it may
-- not, nothing is touched. A refused step leaves the month as it was.
use Rattle.std.proofs.Common.{◌∙◌, sym, subst, Option, Ok, Err}
use borrow.Author.Tests.{not-true, not-false}
use Rattle.std.proofs.lemmas.Result.{err_from_is_err_and}
use Rattle.record.specs.declared.Step.{Step}
use Rattle.record.specs.Record.{decode_of}
use Rattle.book.specs.declared.Month.{Month}
use Rattle.sound.specs.Check.{book_from}
use Rattle.ledger.specs.Writing.{stepped}
use Rattle.ledger.specs.Rooms.{DoesStep}
use Rattle.ledger.proofs.Doing.{same_month}
use Rattle.ledger.proofs.Running.{ready_checked, answers_as, answers_unusable}
use Rattle.ledger.proofs.steps.step.Goals as goal

pub returns-then-not-found-clause-does : goal.returns-then-not-found-clause-does
returns-then-not-found-clause-does c =
    let a = c.args in
    answers_unusable (book_from a.month a.accounts.now a.levels.now a.ledger.now) a.bytes.now (sym c.check-found.ensures.usable_is ∙ not-true _ c.if-not-found.true)

pub do_step-requires : goal.do_step-requires
do_step-requires c = ready_checked _ _ c.check-found.ensures (not-false _ c.if-not-found.false)

pub returns-in_err-number-clause-does : goal.returns-in_err-number-clause-does
returns-in_err-number-clause-does c =
    let a = c.args in
    let b = book_from a.month a.accounts.now a.levels.now a.ledger.now in
    let r = c.do_step in
    let now = r.new in
    let p = err_from_is_err_and c.from_residual.result c.from_residual.ensures.1 in
    let refused = c.in_err-number.field-0.0 in
    let said = subst (λ (d : Option Step). DoesStep b d (stepped now.month (Err refused)) now.accounts now.levels now.ledger now.totals) c.decode.ensures c.in_err-number.ensures.does in
    rw (p.1, p.2) (answers_as b a.bytes.now (ready_checked b c.check-found.result c.check-found.ensures (not-false _ c.if-not-found.false)).0 (stepped a.month (Err refused)) now.accounts now.levels now.ledger now.totals
    (subst (λ (m : Month). DoesStep b (decode_of a.bytes.now) (stepped m (Err refused)) now.accounts now.levels now.ledger now.totals) (same_month b _ _ refused said) said))

pub returns-clause-does : goal.returns-clause-does
returns-clause-does c =
    let a = c.args in
    let b = book_from a.month a.accounts.now a.levels.now a.ledger.now in
    let r = c.do_step in
    let now = r.new in
    let done = stepped now.month (Ok c.in_ok-number.number) in
    answers_as b a.bytes.now (ready_checked b c.check-found.result c.check-found.ensures (not-false _ c.if-not-found.false)).0 done now.accounts now.levels now.ledger now.totals
    (subst (λ (d : Option Step). DoesStep b d done now.accounts now.levels now.ledger now.totals) c.decode.ensures c.in_ok-number.ensures.does)
