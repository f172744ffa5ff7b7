-- The line is laid where the page has room for it; its numbers are the participant's figures. Assumes nothing.
use Rattle.std.proofs.Common.{ap, rules}
use Rattle.text.specs.Lines.{figures_line}
use Rattle.printout.specs.Page.{gathered}
use Rattle.printout.proofs.Pages.{line_held}
use Rattle.printout.proofs.page.Page.participant.Goals as goal

pub returns : goal.returns
returns c = line_held (gathered c.args.self.now) (search rules) c.make_room.ensures (ap (figures_line c.args.f.participant) c.figures_of.ensures) c.figures_line-self.ensures
