-- Each room's step is document 01's on every book that has the parts that the room is given, and a record that says no step is refused. By the room.
use Rattle.std.proofs.Common.{◌≡◌, List, ℕ, subst, Option}
use Rattle.record.specs.declared.Step.{Step}
use Rattle.book.specs.Book.{Book}
use Rattle.book.specs.declared.Account.{Account}
use Rattle.book.specs.declared.Allocation.{Allocation}
use Rattle.sound.specs.Check.{book_from}
use Rattle.sound.specs.declared.made.Totals.{Totals}
use Rattle.ledger.specs.Writing.{Stepped}
use Rattle.ledger.specs.Rooms.{DoesStep}
use Rattle.ledger.proofs.Doing.{nowhere}
use Rattle.ledger.proofs.Fitting.{accounts_long, levels_fit_lem, month_fits_lem}
use Rattle.ledger.proofs.rooms.do_step.Goals as goal

-- what the record says is the room's step
said : {b : Book} {d d' : Option Step} {r : Stepped} {xs : List Account} {ls : List ℕ} {gs : List Allocation} {ts : List Totals} → d' ≡ d → DoesStep b d' r xs ls gs ts → DoesStep b d r xs ls gs ts
said {b} {r = r} {xs} {ls} {gs} {ts} e = subst (λ (y : Option Step). DoesStep b y r xs ls gs ts) e

pub account_room-requires : goal.account_room-requires
account_room-requires c = accounts_long _ c.requires.0

pub levels_room-requires : goal.levels_room-requires
levels_room-requires c = let u = c.requires.0 in (accounts_long _ u, (levels_fit_lem _ u, (month_fits_lem _ u).days))

pub returns-in-Month-clause-does : goal.returns-in-Month-clause-does
returns-in-Month-clause-does c = let a = c.args in said c.in-Month.ensures (c.month_room.ensures.does a.accounts.now a.levels.now a.ledger.now a.totals.now c.requires.1)

pub returns-in-Levels-clause-does : goal.returns-in-Levels-clause-does
returns-in-Levels-clause-does c = let a = c.args in said c.in-Levels.ensures (c.levels_room.ensures.does a.ledger.now a.totals.now c.requires)

pub returns-in-Nowhere-clause-does : goal.returns-in-Nowhere-clause-does
returns-in-Nowhere-clause-does c = let a = c.args in said c.in-Nowhere.ensures (nowhere (book_from a.month.now a.accounts.now a.levels.now a.ledger.now) a.totals.now c.requires.1)
