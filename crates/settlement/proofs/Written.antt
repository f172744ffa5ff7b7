-- What is written to a lent room. A room of another length, and a refused settlement, leave it as it was; of one that is not refused the figures listed stand
-- in the first places, and then the room's own. Assumes nothing.
use mathlib.Core.Path.{◌≡◌, refl, sym, ◌∙◌}
use mathlib.Core.Bool.{false}
use mathlib.Core.List.{List, [], ◌++◌, map}
use Prim.Native.Nat.{◌-◌}
use lib.Dec.{eqb}
use lib.ListN.{length, take, drop, replicate, length-map}
use lib.Seq.{take_at}
use borrow.Author.Tests.{eq-eqb, ne_eqb}
use Rattle.std.specs.Prelude.{Ok, Err}
use Rattle.book.specs.Book.{Book, participants}
use Rattle.book.specs.Settlement as book
use Rattle.reasons.specs.declared.Reason.{Reason}
use Rattle.reasons.specs.declared.Reason.TheVariants.{Unusable, NoMonth, Already, BeforeLast, Unknown, WrongParty, Outside, Closed, WrongStatus, WasWithdrawn, AllGiven, NotCovered, MarginFails, LevelPassed, NoExcess, Excess}
use Rattle.reasons.specs.Numbers.{reason_number}
use Rattle.settlement.specs.declared.figures.Figures.{Figures}
use Rattle.settlement.specs.declared.listing.Listing.{Listing}
use Rattle.settlement.specs.Figures.{figures_in, no_figures}
use Rattle.settlement.specs.Lists.{Lists}
use Rattle.settlement.specs.Settling.{reason_with, listed_with, SettlesWhole, Settles}

-- no reason has number 0
some_reason : (r : Reason) → eqb (reason_number r) 0 ≡ false
some_reason Unusable = refl
some_reason NoMonth = refl
some_reason Already = refl
some_reason BeforeLast = refl
some_reason Unknown = refl
some_reason WrongParty = refl
some_reason Outside = refl
some_reason Closed = refl
some_reason WrongStatus = refl
some_reason WasWithdrawn = refl
some_reason AllGiven = refl
some_reason NotCovered = refl
some_reason MarginFails = refl
some_reason LevelPassed = refl
some_reason NoExcess = refl
some_reason Excess = refl

-- the figures listed are those in use
pub in_use : {s : Listing} {l : List book.Figures} → Lists s l → take s.count s.figures ≡ map figures_in l
in_use {s} {l} h =
    (λ i. take (h.count_is i) (h.figures_are i)) ∙ take_at (map figures_in l) (replicate (participants - length l) no_figures) (length l) (length-map l figures_in)

module _ (b : Book) (room : List Figures) where
  nothing : (r : Reason) → reason_number r ≡ reason_with b (length room) → Settles b room (Err r) room
  nothing r e = let none : listed_with b (length room) ≡ [] = rw (← e, some_reason r) in record { reason_is = e; count_is = tt; figures_are = rw none }

  pub wrong_room : (length room ≡ participants → ⊥) → Settles b room (Err Unusable) room
  unfolding reason_with
  wrong_room h = nothing Unusable (rw (ne_eqb (length room) participants h))

  module _ (long : length room ≡ participants) where
    with_room : reason_with b (length room) ≡ book.settlement_reason b
    unfolding reason_with
    with_room = rw (eq-eqb (length room) participants long)

    pub refused : (r : Reason) → SettlesWhole b (Err r) → Settles b room (Err r) room
    refused r s = nothing r (s.reason_is ∙ sym with_room)

    pub given : (s : Listing) → SettlesWhole b (Ok s) → {after : List Figures} → after ≡ take s.count s.figures ++ drop s.count room → Settles b room (Ok s.count) after
    given s w e =
        let listed : listed_with b (length room) ≡ book.settlement b = rw (with_room, ← w.reason_is) in
        record {
          reason_is = w.reason_is ∙ sym with_room;
          count_is = rw listed w.lists.count_is;
          figures_are = rw listed (e ∙ (λ i. in_use w.lists i ++ drop (w.lists.count_is i) room));
        }
