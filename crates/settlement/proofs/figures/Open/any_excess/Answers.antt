-- `any_excess` meets its contract: each participant is looked at in turn. Assumes nothing.
use Rattle.std.proofs.Common.{get_or, rules, tests, refl}
use Rattle.std.proofs.lemmas.Iterator.{YieldsList-from_range}
use Rattle.std.proofs.lemmas.Iterator.Search.{any_from_yields_List}
use Rattle.book.specs.Book.{no_account}
use Rattle.sound.specs.Check.{no_totals}
use Rattle.settlement.specs.Figures.{exceeds}
use Rattle.settlement.specs.Listing.{excess_from}
use Rattle.settlement.proofs.figures.Open.any_excess.Goals as goal

pub returns : goal.returns
unfolding excess_from
returns c =
    let a = c.args in
    let o = a.self.now in
    any_from_yields_List
    (λ p. exceeds o.month o.levels.now (get_or a.accounts.now p no_account) (get_or a.totals.now p no_totals).made.0 p)
    _ _ _ c.any.ensures.ran (YieldsList-from_range 0 32 32 refl refl) (λ x b q k. search (rules, tests))
