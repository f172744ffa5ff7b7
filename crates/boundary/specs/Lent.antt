-- What each call of the boundary answers and leaves, for every lent book, record, history and room, of any length: document 01's answer, and its book as
-- numbers, which can be lent again as that book. A book that is not readable, or not sound, answers 1 and stays as it is. Assumes nothing.
use Rattle.std.specs.Prelude.{Bool, true, cond, ◌&&◌, List, [], ◌∷◌, ◌≡◌, ℕ, eqb, ℤ, length, flat_map}
use Rattle.std.proofs.lemmas.List.Edits.{sets}
use Rattle.book.specs.Book.{Book, fresh, level_places}
use Rattle.book.specs.declared.Answer.{Answer}
use Rattle.book.specs.Steps.{refusal}
use Rattle.book.specs.Settlement.{Figures, settlement_reason, settlement}
use Rattle.book.specs.Run.{record_answer, record_book, records_of, book_after}
use Rattle.ledger.specs.Running.{turns_of, word_of, written, answered}
use Rattle.boundary.specs.Numbers.{book_places, numbers_of, book_in}
use Rattle.boundary.specs.Readable.{readable}

-- a book's numbers, all but its levels
abbrev pub numbers_from : Book → List ℤ
numbers_from b = numbers_of b.month b.accounts b.ledger

-- an answer as one number: the reason, and 32 times the number given
abbrev pub word : Answer → ℕ
word a = word_of a.reason a.number

-- numbers and levels that can be lent again, as a book
pub record Holds (ns : List ℤ) (lv : List ℕ) (b : Book) : Type 0 where
  pub reads : readable ns ≡ true
  pub is : book_in ns lv ≡ b

-- ---- the fresh book
abbrev pub has_room : List ℤ → List ℕ → Bool
has_room ns lv = eqb (length ns) book_places && eqb (length lv) level_places

pub record Freshens (ns : List ℤ) (lv : List ℕ) (r : ℕ) (ns' : List ℤ) (lv' : List ℕ) : Type 0 where
  pub answer_is : r ≡ cond (has_room ns lv) 0 1
  pub book_is : ns' ≡ cond (has_room ns lv) (numbers_from fresh) ns
  pub levels_are : lv' ≡ cond (has_room ns lv) fresh.levels lv
  pub again : has_room ns lv ≡ true → Holds ns' lv' fresh

-- ---- one record
abbrev pub lent_answer : List ℤ → List ℕ → List ℕ → Answer
lent_answer ns lv bytes = cond (readable ns) (record_answer (book_in ns lv) bytes) (refusal 1)

pub record Steps (ns : List ℤ) (lv bytes : List ℕ) (r : ℕ) (ns' : List ℤ) (lv' : List ℕ) : Type 0 where
  pub answer_is : r ≡ word (lent_answer ns lv bytes)
  pub book_is : ns' ≡ cond (readable ns) (numbers_from (record_book (book_in ns lv) bytes)) ns
  pub levels_are : lv' ≡ cond (readable ns) (record_book (book_in ns lv) bytes).levels lv
  pub again : readable ns ≡ true → Holds ns' lv' (record_book (book_in ns lv) bytes)

-- ---- a history: so many records as there are, and as there is room for answers
-- what the first n leave
pub record Does (ns : List ℤ) (lv history room : List ℕ) (n : ℕ) (ns' : List ℤ) (lv' room' : List ℕ) : Type 0 where
  pub book_is : ns' ≡ cond (readable ns) (numbers_from (book_after (book_in ns lv) (records_of history) n)) ns
  pub levels_are : lv' ≡ cond (readable ns) (book_after (book_in ns lv) (records_of history) n).levels lv
  pub again : readable ns ≡ true → Holds ns' lv' (book_after (book_in ns lv) (records_of history) n)
  pub answers_are : room' ≡ cond (readable ns) (answered (book_in ns lv) (records_of history) n room) (written (λ _. 1) n room)

pub record Runs (ns : List ℤ) (lv history room : List ℕ) (r : ℕ) (ns' : List ℤ) (lv' room' : List ℕ) : Type 0 where
  pub records_are : r ≡ turns_of history (length room)
  pub does : Does ns lv history room r ns' lv' room'

-- ---- settlement
-- a place for each of nine numbers of 32 participants
abbrev pub figure_places : ℕ
figure_places = 288

-- participant and the eight figures, in document 01's order
abbrev pub figure_numbers : Figures → List ℕ
figure_numbers f = f.participant ∷ f.tradeable ∷ f.made ∷ f.received ∷ f.left ∷ f.over ∷ f.short ∷ f.dsm ∷ f.pay ∷ []

abbrev pub lent_reason : List ℤ → List ℕ → List ℕ → ℕ
lent_reason ns lv room = cond (readable ns && eqb (length room) figure_places) (settlement_reason (book_in ns lv)) 1

-- nothing is listed where settlement is refused
abbrev pub lent_list : List ℤ → List ℕ → List ℕ → List Figures
lent_list ns lv room = cond (eqb (lent_reason ns lv room) 0) (settlement (book_in ns lv)) []

-- the reason, and 32 times how many are listed; their figures stand from the room's first place on, and the rest of it stays
pub record Settles (ns : List ℤ) (lv room : List ℕ) (r : ℕ) (room' : List ℕ) : Type 0 where
  pub answer_is : r ≡ word_of (lent_reason ns lv room) (length (lent_list ns lv room))
  pub figures_are : room' ≡ sets room 0 (flat_map figure_numbers (lent_list ns lv room))
