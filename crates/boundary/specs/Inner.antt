-- What private functions state: the numbers of figures in the units of the code, and what a history leaves whose book cannot be read. Assumes nothing.
use Rattle.std.specs.Prelude.{Bool, ◌&&◌, List, [], ◌∷◌, ◌≡◌, ℕ, ℤ, length}
use Rattle.book.specs.declared.Window.{Window}
use Rattle.book.specs.declared.Status.{Status}
use Rattle.book.specs.declared.Month.{Month}
use Rattle.book.specs.declared.Whole.{Whole}
use Rattle.book.specs.Book.{no_month}
use Rattle.ledger.specs.Running.{turns_of, written}
use Rattle.settlement.specs.declared.figures.Figures.{Figures}
use Rattle.boundary.specs.Numbers.{counted, most_status, minutes_in, month_in, status_of, accounts_in, ledger_in}
use Rattle.boundary.specs.Readable.{fits_to, asked_reads}

-- ---- what numbers say, of which each is inside what its field can hold
abbrev pub window_said : ℤ → ℤ → Window
window_said opening closing = record { opening = minutes_in opening; closing = minutes_in closing }

abbrev pub status_fits : ℤ → ℤ → Bool
status_fits number asked = fits_to most_status number && asked_reads (counted most_status number) asked

abbrev pub status_said : ℤ → ℤ → Status
status_said number asked = status_of (counted most_status number) (minutes_in asked)

abbrev pub whole_said : List ℤ → Whole
whole_said ns = record { month = month_in ns; accounts = accounts_in ns; ledger = ledger_in ns }

-- participant and the eight figures, in document 01's order
abbrev pub held_numbers : Figures → List ℕ
held_numbers f = f.participant ∷ f.tradeable.0 ∷ f.made.0 ∷ f.received.0 ∷ f.left.0 ∷ f.over.0 ∷ f.short.0 ∷ f.dsm.0 ∷ f.pay.0 ∷ []

-- a month of no sound book: it has a day, and fewer than 28
abbrev pub one_day : Month
one_day = record no_month { days = 1 }

-- 1 to each record, and the levels as they were
pub record Refuses (lv history room : List ℕ) (r : ℕ) (lv' room' : List ℕ) : Type 0 where
  pub records_are : r ≡ turns_of history (length room)
  pub levels_are : lv' ≡ lv
  pub answers_are : room' ≡ written (λ _. 1) r room
