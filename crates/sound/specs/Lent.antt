-- A lent book as a book. Assumes nothing.
use Rattle.book.specs.Book.{Book}
use Rattle.sound.specs.declared.test.Lent.{Lent}
use Rattle.sound.specs.Check.{book_from}

abbrev pub lent_book : Lent → Book
lent_book l = book_from l.month l.accounts.now l.levels.now l.ledger.now
