-- What one record leaves of a lent book, and its answer, for every book and every list of bytes. Assumes nothing.
use Rattle.std.specs.Prelude.{◌≡◌, List, ℕ}
use Rattle.book.specs.declared.Account.{Account}
use Rattle.book.specs.declared.Allocation.{Allocation}
use Rattle.book.specs.Book.{Book}
use Rattle.book.specs.Run.{record_book, record_answer}
use Rattle.sound.specs.Check.{book_from}
use Rattle.ledger.specs.Writing.{Stepped}

-- the book that is left and the answer are those of document 01
pub record Answers (b : Book) (bytes : List ℕ) (r : Stepped) (accounts : List Account) (lv : List ℕ) (ledger : List Allocation) : Type 0 where
  pub book : book_from r.month accounts lv ledger ≡ record_book b bytes
  pub answer : r.answer ≡ record_answer b bytes
