-- What a run over a history leaves of a lent book, and the answers that it writes, one word each, for every book, every list of bytes and any room. An
-- unusable book answers 1 to each record and stays. Assumes nothing.
use Rattle.std.specs.Prelude.{◌≡◌, List, ℕ, zero, suc, ◌+◌, ◌*◌, ◌/◌, ◌%◌, min, length, set}
use Rattle.book.specs.declared.Month.{Month}
use Rattle.book.specs.declared.Account.{Account}
use Rattle.book.specs.declared.Allocation.{Allocation}
use Rattle.book.specs.Book.{Book}
use Rattle.book.specs.Run.{records_of, book_after, answer_at}

-- so many records stand in a history; a short last piece is one
abbrev pub records_in : List ℕ → ℕ
records_in history = (length history + 23) / 24

-- how many a run does: those that there are, as far as there is room for answers
abbrev pub turns_of : List ℕ → ℕ → ℕ
turns_of history room = min (records_in history) room

-- ---- an answer as one number, and back
abbrev pub word_of : ℕ → ℕ → ℕ
word_of reason number = reason + 32 * number

abbrev pub reason_in : ℕ → ℕ
reason_in word = word % 32

abbrev pub number_in : ℕ → ℕ
number_in word = word / 32 % 65536

-- ---- the answers
-- a list with its first n numbers written anew, each from its place
unfoldable pub written : (ℕ → ℕ) → ℕ → List ℕ → List ℕ
written word zero room = room
written word (suc n) room = set (written word n room) n (word n)

-- the room for answers once the first n records are answered; the rest stays
abbrev pub answered : Book → (ℕ → List ℕ) → ℕ → List ℕ → List ℕ
answered b records = written (λ i. word_of (answer_at b records i).reason (answer_at b records i).number)

-- ---- a run
-- what the first n records leave
pub record Does (b : Book) (history room : List ℕ) (n : ℕ) (month : Month) (accounts : List Account) (lv : List ℕ) (ledger : List Allocation) (answers : List ℕ) : Type 0 where
  pub month_is : month ≡ (book_after b (records_of history) n).month
  pub accounts_are : accounts ≡ (book_after b (records_of history) n).accounts
  pub levels_are : lv ≡ (book_after b (records_of history) n).levels
  pub ledger_is : ledger ≡ (book_after b (records_of history) n).ledger
  pub answers_are : answers ≡ answered b (records_of history) n room

-- what a run leaves
pub record Runs (b : Book) (history room : List ℕ) (month : Month) (records : ℕ) (accounts : List Account) (lv : List ℕ) (ledger : List Allocation) (answers : List ℕ) : Type 0 where
  pub records_are : records ≡ turns_of history (length room)
  pub does : Does b history room records month accounts lv ledger answers
