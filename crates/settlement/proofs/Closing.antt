-- The figures that a settlement gives close. A settlement that is not refused is that of a usable book with a month open and no excess, whose list closes
-- (`book`'s `closes`); its figures are that list in the units of the code, and places that are not used add nothing. Assumes nothing.
use mathlib.Core.Path.{◌≡◌, refl, sym, ap, ◌∙◌}
use mathlib.Core.Bool.{Bool, true, false, cond, not}
use mathlib.Core.List.{List, [], ◌∷◌, map}
use Prim.Native.Nat.{ℕ, ◌+◌, ◌-◌}
use native.Mathlib.Omega.{arith}
use lib.Dec.{eqb}
use lib.ListN.{length, take, drop, replicate, length-map}
use lib.Seq.{take_at}
use Rattle.std.specs.Prelude.{Ok}
use Rattle.book.specs.Book.{Book, is_open, participants}
use Rattle.book.specs.Run.{usable}
use Rattle.book.specs.Words.{total, accepted, received}
use Rattle.book.specs.Settlement as book
use Rattle.book.proofs.Bounds.{agreed}
use Rattle.book.proofs.Closing.{closes}
use Rattle.book.proofs.Sums.{total-append, total_none}
use Rattle.book.proofs.Tables.{blank}
use Rattle.settlement.specs.declared.figures.Figures.{Figures}
use Rattle.settlement.specs.declared.listing.Listing.{Listing}
use Rattle.settlement.specs.Figures.{figures_in, no_figures}
use Rattle.settlement.specs.Listing.{filled}
use Rattle.settlement.specs.Settling.{reason_with, SettlesWhole, Settles}

-- ---- a participant's quantities are the ledger's
pub made_is : (b : Book) (p : ℕ) → (figures_in (book.figures_of b p)).made.0 ≡ accepted b p
unfolding book.figures_of
made_is b p = refl

pub received_is : (b : Book) (p : ℕ) → (figures_in (book.figures_of b p)).received.0 ≡ received b p
unfolding book.figures_of
received_is b p = refl

-- ---- and so are all of them
pub record Closes (b : Book) (figures : List Figures) : Type 0 where
  -- all tradeable credits equal all received plus all left
  pub credits : total (λ f. f.tradeable.0) figures ≡ total (λ f. f.received.0) figures + total (λ f. f.left.0) figures
  -- all that is made, and all that is received, is what the ledger has as accepted
  pub made : total (λ f. f.made.0) figures ≡ total agreed b.ledger
  pub received : total (λ f. f.received.0) figures ≡ total agreed b.ledger

total_in : (f : Figures → ℕ) (l : List book.Figures) → total f (map figures_in l) ≡ total (λ x. f (figures_in x)) l
unfolding total
total_in f [] = refl
total_in f (x ∷ l) = ap (λ (n : ℕ). f (figures_in x) + n) (total_in f l)

total_filled : (f : Figures → ℕ) → f no_figures ≡ 0 → (l : List book.Figures) → total f (filled l) ≡ total f (map figures_in l)
total_filled f none l =
    let k = participants - length l in
    omega (arith, total-append f (map figures_in l) (replicate k no_figures), total_none f no_figures (replicate k no_figures) (λ i _. ap f (blank k i no_figures) ∙ none))

-- ---- where the reason is 0
passed : (usable opened excess : Bool) → ◌≡◌ {A = ℕ} (cond (not usable) 1 (cond (not opened) 2 (cond excess 16 0))) 0 → (usable ≡ true) × ((opened ≡ true) × (excess ≡ false))
passed true true false h = (refl, (refl, refl))
passed true true true h = absurd (omega arith)
passed true false excess h = absurd (omega arith)
passed false opened excess h = absurd (omega arith)

list_closes : (b : Book) → book.settlement_reason b ≡ 0 → Closes b (map figures_in (book.settlement b))
unfolding book.settlement_reason
list_closes b h =
    let s = passed (usable b) (is_open b) (book.reason16 b) h in
    let c = closes b s.0 s.1.0 s.1.1 in
    let l = book.settlement b in
    record {
      credits = omega (arith, total_in (λ f. f.tradeable.0) l, total_in (λ f. f.received.0) l, total_in (λ f. f.left.0) l, c.credits);
      made = total_in (λ f. f.made.0) l ∙ c.made;
      received = total_in (λ f. f.received.0) l ∙ c.received;
    }

-- ---- the settlement of a book that is held whole: all its places
pub whole_closes : (b : Book) (s : Listing) → SettlesWhole b (Ok s) → Closes b s.figures
whole_closes b s w =
    let l = book.settlement b in
    let c = list_closes b (sym w.reason_is) in
    rw (w.lists.figures_are) (record {
      credits = omega (arith, total_filled (λ f. f.tradeable.0) refl l, total_filled (λ f. f.received.0) refl l, total_filled (λ f. f.left.0) refl l, c.credits);
      made = total_filled (λ f. f.made.0) refl l ∙ c.made;
      received = total_filled (λ f. f.received.0) refl l ∙ c.received;
    })

-- ---- the settlement of a lent book: the places of the room that were written
had_room : (t : Bool) (n : ℕ) → cond t n 1 ≡ 0 → n ≡ 0
had_room true n h = h
had_room false n h = absurd (omega arith)

pub lent_closes : (b : Book) (room after : List Figures) (n : ℕ) → Settles b room (Ok n) after → Closes b (take n after)
unfolding reason_with
lent_closes b room after n s =
    let l = map figures_in (book.settlement b) in
    let rest = drop (length (book.settlement b)) room in
    let none : reason_with b (length room) ≡ 0 = sym s.reason_is in
    let written : take n after ≡ l =
    rw (s.count_is, s.figures_are, none) (take_at l rest (length (book.settlement b)) (length-map (book.settlement b) figures_in)) in
    rw written (list_closes b (had_room (eqb (length room) participants) (book.settlement_reason b) none))
