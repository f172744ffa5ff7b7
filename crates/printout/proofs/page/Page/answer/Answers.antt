-- The line is laid where the page has room for it; its reason and its number are those of the word. Assumes nothing.
use Rattle.std.proofs.Common.{rules}
use Rattle.text.specs.Lines.{answer_line}
use Rattle.printout.specs.Page.{gathered}
use Rattle.printout.proofs.Pages.{line_held}
use Rattle.printout.proofs.page.Page.answer.Goals as goal

pub returns : goal.returns
returns c =
    let said = c.answer_in-answer.ensures in
    line_held (gathered c.args.self.now) (search rules) c.make_room.ensures (λ i. answer_line c.args.place (said.0 i) (said.1 i)) c.answer_line-self.ensures
