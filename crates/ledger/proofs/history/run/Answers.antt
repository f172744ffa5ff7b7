-- Where the book may be used, its totals are lent to `do_records` with the tables; where it may not, each record is answered 1 and nothing else is touched.
use Rattle.std.proofs.Common.{◌≡◌, ◌∙◌, ◌++◌, List, ℕ, sym, subst, drop, replicate, rules}
use Rattle.std.proofs.lemmas.List.{length-take-le}
use Rattle.sound.specs.Check.{book_from}
use Rattle.ledger.specs.Running.{Runs}
use Rattle.ledger.proofs.Running.{ready_checked, runs_as, runs_unusable}
use Rattle.ledger.proofs.history.run.Goals as goal

pub do_records-requires : goal.do_records-requires
do_records-requires c = ready_checked _ _ c.check-found.ensures c.if-found.true

pub returns-then-found : goal.returns-then-found
returns-then-found c =
    let a = c.args in
    runs_as (book_from a.month a.accounts.now a.levels.now a.ledger.now) a.history.now a.answers.now c.turns-records.result c.turns-records.ensures _ _ _ _ _ c.do_records.ensures

pub returns-else-found : goal.returns-else-found
returns-else-found c =
    let a = c.args in
    let b = book_from a.month a.accounts.now a.levels.now a.ledger.now in
    let n = c.turns-records.result in
    let filled : c.fill.new.self ≡ replicate n 1 = search (rules, length-take-le) in
    subst (λ (ys : List ℕ). Runs b a.history.now a.answers.now a.month n a.accounts.now a.levels.now a.ledger.now (ys ++ drop n a.answers.now)) (sym filled)
    (runs_unusable b (sym c.check-found.ensures.usable_is ∙ c.if-found.false) a.history.now a.answers.now n c.turns-records.ensures)
