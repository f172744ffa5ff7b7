-- What a done step writes of one allocation is what document 01 writes: the record at its place, which is that of its number, or the next one; the totals
-- are moved by that record, whose parties are the old one's, or fill an empty place; and the month has its minute and its number. By kind. Assumes nothing.
use mathlib.Core.Path.{◌≡◌, refl, sym, ap, ◌∙◌}
use mathlib.Core.Bool.{true, false, ◌||◌}
use mathlib.Core.List.{List}
use Prim.Native.Nat.{ℕ, ◌+◌, ◌-◌, ◌≤◌, ◌<◌}
use native.Mathlib.Omega.{arith}
use lib.ListN.{length, get_or, set}
use borrow.Author.Tests.{leb-true, leb-false}
use Rattle.std.specs.Prelude.{Option, Some, Ok, unwrap_or}
use Rattle.units.specs.declared.Minutes.{Minutes}
use Rattle.book.specs.declared.Month.{Month}
use Rattle.book.specs.declared.Allocation.{Allocation}
use Rattle.book.specs.Book.{Book, no_allocation, most_given, most_quantity}
use Rattle.book.specs.Reasons.{not_registered, not_given, reason5, in_range, reason11, reason_of}
use Rattle.book.specs.Steps.{written, done, number_given}
use Rattle.book.specs.Run.{usable}
use Rattle.book.proofs.Tests.{parts, neither}
use Rattle.book.proofs.NoReason.{NoReason, no_reason}
use Rattle.sound.specs.Check.{book_from}
use Rattle.gate.specs.declared.Trade.{Trade}
use Rattle.gate.specs.declared.Trade.TheVariants.{Submit, Amend}
use Rattle.gate.specs.declared.AllocationStep.{AllocationStep}
use Rattle.gate.specs.Rooms.{trades, allocation_step}
use Rattle.sound.specs.declared.made.Totals.{Totals}
use Rattle.ledger.specs.Ready.{TotalsMove, Ready}
use Rattle.ledger.specs.Judging.{place_of, NumberLeft}
use Rattle.ledger.specs.Writing.{allocation_by, totals_after, traded_at, given_by, stepped}
use Rattle.ledger.specs.Rooms.{DoesStep}
use Rattle.ledger.proofs.Doing.{does}
use Rattle.ledger.proofs.Fitting.{Parties, parties, quantity_low, few_given, next_empty, ledger_long, totals_fit, registered_below}
use Rattle.ledger.proofs.Moved.{Replaces, rewritten, filled, totalled_after, totals_move}
use Rattle.ledger.proofs.Passed.{given_range}

module _ (b : Book) (u : usable b ≡ true) (p : ℕ) (t : Minutes) where
  abbrev old : Trade → Allocation
  old y = get_or b.ledger (place_of b.month y) no_allocation

  abbrev new : Trade → Allocation
  new y = allocation_by p t y (old y)

  record Writes (y : Trade) : Type 0 where
    inside : place_of b.month y < most_given
    replaces : Replaces (old y) (new y)
    of : Parties (new y)
    low : (new y).quantity.0 ≤ most_quantity
    left : NumberLeft b.month y
    book : book_from (traded_at t y b.month) b.accounts b.levels (set b.ledger (place_of b.month y) (new y)) ≡ done b (trades p y t)
    number : unwrap_or (given_by y b.month) 0 ≡ number_given b (trades p y t)

  -- that of a number that was given
  given_inside : (n : ℕ) → (not_registered b p || not_given b n) ≡ false → n - 1 < most_given
  given_inside n e = let r = given_range b n (neither (not_registered b p) (not_given b n) e).1 in omega (arith, few_given b u)

  writes : (y : Trade) → NoReason b (trades p y t) → Writes y
  unfolding reason5 in_range reason11 done written number_given
  writes (Submit c q) r =
      let known = neither (not_registered b p) (not_registered b c) r.no5 in
      let left = leb-false most_given b.month.given r.no11 in
      let ok = r.no7 in
      let one : b.month.given + 1 - 1 ≡ b.month.given = omega arith in
      record {
        inside = left;
        replaces = filled (next_empty b u);
        of = (registered_below b u p known.0, registered_below b u c known.1);
        low = leb-true q.0 most_quantity (search parts);
        left = left;
        book = rw one;
        number = refl;
      }
  writes (Amend n q) r =
      record { inside = given_inside n r.no5; replaces = rewritten refl refl; of = parties b u _; low = leb-true q.0 most_quantity r.no7; left = tt; book = refl; number = refl }
  writes _ r =
      record { inside = given_inside _ r.no5; replaces = rewritten refl refl; of = parties b u _; low = quantity_low b u _; left = tt; book = refl; number = refl }

-- ---- in the room, where no reason applies
module _ (b : Book) (ts : List Totals) (ready : Ready b ts) (x : AllocationStep) (is : 0 ≡ reason_of b (allocation_step x)) where
  abbrev i : ℕ
  i = place_of b.month x.trade

  abbrev was : Allocation
  was = get_or b.ledger i no_allocation

  done_writes : Writes b ready.0 x.party x.at x.trade
  done_writes = writes b ready.0 x.party x.at x.trade (no_reason b (allocation_step x) (sym is))

  pub inside : i < length b.ledger
  inside = omega (arith, done_writes.inside, ledger_long b ready.0)

  pub number_left : NumberLeft b.month x.trade
  number_left = done_writes.left

  -- the record that was read, and the one that is written
  module _ {here : Allocation} (e-here : here ≡ was) {new : Allocation} (e-new : new ≡ allocation_by x.party x.at x.trade here) where
    new_is : new ≡ allocation_by x.party x.at x.trade was
    new_is = e-new ∙ ap (allocation_by x.party x.at x.trade) e-here

    replaced : Replaces here new
    replaced = rw (e-here, new_is) done_writes.replaces

    of_new : Parties new
    of_new = rw new_is done_writes.of

    low : new.quantity.0 ≤ most_quantity
    low = rw new_is done_writes.low

    pub moves : TotalsMove ts here new
    moves = totals_move ts b.ledger i here new ready.1 inside (sym e-here) replaced of_new.0 of_new.1 (totals_fit b ts ready.0 ready.1) low

    pub traded : {ts' : List Totals} {ledger' : List Allocation} {k : ℕ} → k ≡ i → ts' ≡ totals_after here new ts → ledger' ≡ set b.ledger k new → (m : Month) (n : Option ℕ) → m ≡ traded_at x.at x.trade b.month → n ≡ given_by x.trade b.month
        → DoesStep b (Some (allocation_step x)) (stepped m (Ok n)) b.accounts b.levels ledger' ts'
    traded e-k e-ts e-ledger m n e-m e-n =
        does b (allocation_step x) is m n
        (rw (e-m, e-ledger, e-k, new_is) done_writes.book)
        (rw e-n done_writes.number)
        (rw (e-ts, e-ledger, e-k) (totalled_after ts b.ledger i here new ready.1 inside (sym e-here) replaced of_new.0 of_new.1))
