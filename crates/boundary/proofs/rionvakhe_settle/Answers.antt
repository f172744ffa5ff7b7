-- `rionvakhe_settle` meets its contract: a readable book is settled as the book that it is read as. Assumes nothing.
use Rattle.std.proofs.Common.{ap, ◌∙◌}
use Rattle.std.proofs.lemmas.List.Edits.{sets}
use Rattle.std.specs.List.{flat_map}
use Rattle.boundary.specs.Inner.{held_numbers}
use Rattle.boundary.proofs.Said.{was_said}
use Rattle.boundary.proofs.Listed.{settles}
use Rattle.boundary.proofs.rionvakhe_settle.Goals as goal

pub returns-in-Ok : goal.returns-in-Ok
returns-in-Ok c =
    let a = c.args in
    let said = was_said a.book.now c.in-Some.ensures in
    settles a.book.now a.levels.now a.figures.now said.0 c.if-figures-ne-FIGURE_PLACES.false c.in-Ok.list (rw said.1 at c.in-Ok.ensures)
    (c.write_table.ensures.written ∙ ap (λ l. sets a.figures.now 0 (flat_map held_numbers l)) c.figures.ensures)
