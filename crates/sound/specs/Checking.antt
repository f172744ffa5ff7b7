-- What a check answers of a book, for every book. Assumes nothing.
use Rattle.std.specs.Prelude.{◌≡◌, cond}
use Rattle.book.specs.Book.{Book, fresh}
use Rattle.book.specs.Sound.{right_lengths}
use Rattle.book.specs.Run.{usable}
use Rattle.sound.specs.Check.{CappedTotals}
use Rattle.sound.specs.declared.test.Checked.{Checked}

-- whether it may be used; its accounts and the totals of its ledger, or those of the fresh book where a table has a wrong length
pub record Checks (b : Book) (r : Checked) : Type 0 where
  pub usable_is : r.usable ≡ usable b
  pub accounts_are : r.accounts ≡ cond (right_lengths b) b.accounts fresh.accounts
  pub totals_are : CappedTotals r.totals (cond (right_lengths b) b.ledger fresh.ledger)
