-- `rionvakhe_fresh` meets its contract: where the lengths are right the fresh parts are written, and the levels cleared. Assumes nothing.
use Rattle.std.proofs.Common.{◌≡◌, true, length, replicate, ap, ◌∙◌, rules}
use borrow.Author.Tests.{eq-eqb}
use Rattle.book.proofs.Tests.{both}
use Rattle.sound.specs.Check.{book_from}
use Rattle.boundary.specs.Numbers.{numbers_of}
use Rattle.boundary.specs.Lent.{has_room}
use Rattle.boundary.proofs.Again.{holds}
use Rattle.boundary.proofs.rionvakhe_fresh.Goals as goal

pub returns : goal.returns
returns c =
    let a = c.args in
    let room : has_room a.book.now a.levels.now ≡ true = both _ _ (eq-eqb _ _ c.if-book-ne-BOOK_PLACES.false) (eq-eqb _ _ c.if-levels-ne-LEVEL_PLACES.false) in
    let cleared : c.fill.new.self ≡ replicate (length a.levels.now) 0 = search rules in
    let levels = cleared ∙ ap (λ k. replicate k 0) c.if-levels-ne-LEVEL_PLACES.false in
    let whole = c.fresh_whole.result in
    let fresh_is = c.fresh_whole.ensures in
    let book = c.write_book.ensures in
    let held = holds whole.month whole.accounts whole.ledger book.1 c.fill.new.self book.0 in
    record {
      answer_is = rw room;
      book_is = rw room (book.0 ∙ ap (λ w. numbers_of w.month w.accounts w.ledger) fresh_is);
      levels_are = rw room levels;
      again = λ _. record { reads = held.reads; is = held.is ∙ (λ i. book_from (fresh_is i).month (fresh_is i).accounts (levels i) (fresh_is i).ledger) };
    }
