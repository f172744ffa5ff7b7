-- What the types of the code hold, part by part: each number of a book that code has is inside what its field can hold, so that what is written can be
-- read again (`proofs/Again`). Assumes nothing.
use Rattle.std.specs.Prelude.{true, List, ◌≡◌, ℕ, ◌≤◌, ◌<◌, length, get_or}
use Rattle.units.specs.Capped.{most_thousandths}
use Rattle.book.specs.declared.Window.{Window}
use Rattle.book.specs.declared.Month.{Month}
use Rattle.book.specs.declared.Account.{Account}
use Rattle.book.specs.declared.Allocation.{Allocation}
use Rattle.book.specs.Book.{no_window, no_account, no_allocation, participants, most_given}
use Rattle.boundary.specs.Numbers.{asked_number, most_byte, most_number}
use Rattle.boundary.specs.Readable.{fits_minute}

pub record WindowFits (w : Window) : Type 0 where
  pub opening_fits : fits_minute w.opening.0 ≡ true
  pub closing_fits : fits_minute w.closing.0 ≡ true

-- a month but for its windows
pub record HeadFits (m : Month) : Type 0 where
  pub days_low : m.days ≤ most_byte
  pub last_fits : fits_minute m.last.0 ≡ true
  pub given_low : m.given ≤ most_number

pub record MonthFits (m : Month) : Type 0 where
  pub head : HeadFits m
  pub windows_long : length m.windows ≡ 4
  pub first : WindowFits (get_or m.windows 0 no_window)
  pub second : WindowFits (get_or m.windows 1 no_window)
  pub third : WindowFits (get_or m.windows 2 no_window)
  pub fourth : WindowFits (get_or m.windows 3 no_window)

pub record AccountFits (a : Account) : Type 0 where
  pub roles_low : a.roles ≤ most_byte
  pub requirement_low : a.requirement.0 ≤ most_thousandths

pub record AllocationFits (l : Allocation) : Type 0 where
  pub generator_low : l.generator ≤ most_byte
  pub customer_low : l.customer ≤ most_byte
  pub quantity_low : l.quantity.0 ≤ most_thousandths
  pub asked_fits : fits_minute (asked_number l.status) ≡ true

-- the tables, below a place
abbrev pub AccountsFit : List Account → ℕ → Type 0
AccountsFit accounts n = (p : ℕ) → p < n → AccountFits (get_or accounts p no_account)

abbrev pub LedgerFits : List Allocation → ℕ → Type 0
LedgerFits ledger n = (i : ℕ) → i < n → AllocationFits (get_or ledger i no_allocation)

-- a whole book, but for its levels
pub record BookFits (m : Month) (accounts : List Account) (ledger : List Allocation) : Type 0 where
  pub month_fits : MonthFits m
  pub accounts_long : length accounts ≡ participants
  pub accounts_fit : AccountsFit accounts participants
  pub ledger_long : length ledger ≡ most_given
  pub ledger_fits : LedgerFits ledger most_given
