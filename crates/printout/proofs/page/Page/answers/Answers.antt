-- One record more adds its line. Assumes nothing.
use Rattle.std.proofs.Common.{refl, sym, ap, ◌∙◌}
use Rattle.printout.specs.Page.{gathered, with_line, line_at, with_answers}
use Rattle.printout.proofs.Pages.{answers_more}
use Rattle.printout.proofs.page.Page.answers.Goals as goal

pub loop-i-init : goal.loop-i-init
unfolding with_answers
loop-i-init c = refl

pub loop-i-preserved : goal.loop-i-preserved
loop-i-preserved c =
    let s = c.args in
    c.answer.ensures ∙ ap (with_line 64 (line_at s.before s.words.now c.loop-i.i)) c.loop-i.invariant
    ∙ sym (answers_more s.before s.words.now c.loop-i.i (gathered s.self.now))
