-- One participant more adds its line. Assumes nothing.
use Rattle.std.proofs.Common.{refl, sym, ap, ◌∙◌, get_or}
use Rattle.settlement.specs.Figures.{no_figures}
use Rattle.text.specs.Lines.{figures_line}
use Rattle.printout.specs.Page.{gathered, with_line, numbers_of, with_figures}
use Rattle.printout.proofs.Pages.{figures_more}
use Rattle.printout.proofs.page.Page.participants.Goals as goal

pub loop-f-init : goal.loop-f-init
unfolding with_figures
loop-f-init c = refl

pub loop-f-preserved : goal.loop-f-preserved
loop-f-preserved c =
    let figures = c.args.figures.now in
    let f = get_or figures c.loop-f.f-index no_figures in
    c.participant.ensures ∙ ap (with_line 256 (figures_line f.participant (numbers_of f))) c.loop-f.invariant
    ∙ sym (figures_more figures c.loop-f.f-index (gathered c.args.self.now))
