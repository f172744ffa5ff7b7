-- The line is laid where the page has room for it. Assumes nothing.
use Rattle.std.proofs.Common.{refl, rules}
use Rattle.printout.specs.Page.{gathered}
use Rattle.printout.proofs.Pages.{line_held}
use Rattle.printout.proofs.page.Page.refusal.Goals as goal

pub returns : goal.returns
returns c = line_held (gathered c.args.self.now) (search rules) c.make_room.ensures refl c.refusal_line-self.ensures
