-- The first record finds the book with the totals of its ledger, each record leaves the run one further, and after the last one the book and the answers
-- are the definition's.
use Rattle.std.proofs.Common.{◌≡◌, ℕ, length, sym, ap, subst, arith, ◌∙◌, set, Option, Result}
use Rattle.record.specs.declared.Step.{Step}
use Rattle.reasons.specs.declared.Reason.{Reason}
use Rattle.sound.specs.Check.{book_from}
use Rattle.ledger.specs.Rooms.{DoesStep}
use Rattle.ledger.specs.Writing.{answer_said, stepped}
use Rattle.ledger.specs.Running.{word_of, Does}
use Rattle.ledger.proofs.Running.{stands_first, ready_next, stands_next, stands_done}
use Rattle.ledger.proofs.history.do_records.Goals as goal
use Rattle.ledger.proofs.history.do_records.Goals.{in-Ok, in-Err}

pub loop-i-init : goal.loop-i-init
loop-i-init c =
    let a = c.args in
    stands_first (book_from a.month.now a.accounts.now a.levels.now a.ledger.now) c.requires.0 a.history.now a.answers.now a.totals.now c.requires.1

pub do_step-requires : goal.do_step-requires
do_step-requires c =
    let a = c.args in
    let l = c.loop-i in
    ready_next (book_from a.month.now a.accounts.now a.levels.now a.ledger.now) c.requires.0 a.history.now a.answers.now l.i l.month l.accounts l.levels l.ledger l.totals l.answers l.invariant

pub loop-i-preserved : goal.loop-i-preserved
loop-i-preserved c =
    let a = c.args in
    let l = c.loop-i in
    let r = c.do_step in
    let now = r.new in
    let word = λ (d : Result (Option ℕ) Reason). word_of (answer_said d).reason (answer_said d).number in
    let answered : c.match-do_step.answer ≡ word r.result = elim c.match-do_step.branch [
      | in-Ok w ↦ w.answer-is ∙ w.word_of.ensures ∙ ap (word_of 0) w.unwrap_or.ensures ∙ sym (ap word w.in-Ok.is)
      | in-Err w ↦ w.answer-is ∙ w.word_of-in-Err.ensures ∙ ap (λ n. word_of n 0) w.into.ensures ∙ sym (ap word w.in-Err.is)
    ] in
    stands_next (book_from a.month.now a.accounts.now a.levels.now a.ledger.now) c.requires.0 a.history.now a.answers.now l.i l.month l.accounts l.levels l.ledger l.totals l.answers l.invariant
    (stepped now.month r.result) now.accounts now.levels now.ledger now.totals _
    (subst (λ (d : Option Step). DoesStep (book_from l.month l.accounts l.levels l.ledger) d (stepped now.month r.result) now.accounts now.levels now.ledger now.totals) c.decode_at-said.ensures r.ensures.does)
    (ap (set l.answers l.i) answered)

pub returns : goal.returns
returns c =
    let a = c.args in
    let l = c.loop-i in
    let b = book_from a.month.now a.accounts.now a.levels.now a.ledger.now in
    let all : l.i ≡ length a.answers.now = omega arith in
    subst (λ (k : ℕ). Does b a.history.now a.answers.now k l.month l.accounts l.levels l.ledger l.answers) all
    (stands_done b c.requires.0 a.history.now a.answers.now l.i l.month l.accounts l.levels l.ledger l.totals l.answers l.invariant)
