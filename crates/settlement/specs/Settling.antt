-- What settlement answers, for every book: document 01's reason and list. Assumes nothing.
use Rattle.std.specs.Prelude.{cond, List, [], map, ◌++◌, ◌≡◌, ℕ, eqb, length, drop, Result, IfOk}
use Rattle.book.specs.Book.{Book, participants}
use Rattle.book.specs.Settlement as book
use Rattle.reasons.specs.declared.Reason.{Reason}
use Rattle.reasons.specs.Numbers.{reason_said}
use Rattle.settlement.specs.declared.figures.Figures.{Figures}
use Rattle.settlement.specs.declared.listing.Listing.{Listing}
use Rattle.settlement.specs.Figures.{figures_in}
use Rattle.settlement.specs.Lists.{Lists}

-- of a book that is held whole: the reason, or the list; every other place is not used
pub record SettlesWhole (b : Book) (r : Result Listing Reason) : Type 0 where
  pub reason_is : reason_said r ≡ book.settlement_reason b
  pub lists : IfOk r (λ s. Lists s (book.settlement b))

-- a lent room for the figures has a place for each participant, or settlement is refused
unfoldable pub reason_with : Book → ℕ → ℕ
reason_with b room = cond (eqb room participants) (book.settlement_reason b) 1

-- nothing is listed where settlement is refused
abbrev pub listed_with : Book → ℕ → List book.Figures
listed_with b room = cond (eqb (reason_with b room) 0) (book.settlement b) []

-- of a lent book and a lent room: the list stands in the first places, and the rest of the room stays as it was; all of it where settlement is refused
pub record Settles (b : Book) (room : List Figures) (r : Result ℕ Reason) (after : List Figures) : Type 0 where
  pub reason_is : reason_said r ≡ reason_with b (length room)
  pub count_is : IfOk r (λ n. n ≡ length (listed_with b (length room)))
  pub figures_are : after ≡ map figures_in (listed_with b (length room)) ++ drop (length (listed_with b (length room))) room
