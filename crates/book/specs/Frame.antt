-- Document 01, "The step record", the column "Does", read as a limit: for each kind the places of the book that a done step may alter (`Alters`).
-- Every other place keeps what it holds, and every table its length (`May`). A refused step alters nothing (`Refused`), and a record is a done
-- step's (`Done`) or refused. Places count from 0, as the tables do: allocation number n stands at n - 1, and so does window n. Assumes nothing.
use Rattle.std.specs.Prelude.{◌≡◌, ◌⊎◌, ◌≢◌, true, cond, List, ℕ, ◌+◌, ◌-◌, ◌%◌, ◌≤◌, leb, length, get_or, Some}
use Rattle.record.specs.declared.Step.{Step}
use Rattle.record.specs.declared.Step.TheVariants.{Open, Window, Register, Requirement, Margin, Create, Terminate, Submit, Withdraw, Accept, AskReversal, AgreeReversal, GeneratorAmends, OperatorAmends}
use Rattle.record.specs.Record.{decode_of}
use Rattle.book.specs.declared.Window as W
use Rattle.book.specs.declared.Month.{Month}
use Rattle.book.specs.declared.Account.{Account}
use Rattle.book.specs.declared.Allocation.{Allocation}
use Rattle.book.specs.declared.Answer.{Answer}
use Rattle.book.specs.Book.{Book, account, no_window, no_allocation}
use Rattle.book.specs.Words.{level_place}
use Rattle.book.specs.Kinds.{is, time_of, SUBMIT}
use Rattle.book.specs.Reasons.{reason_of}
use Rattle.book.specs.Cut.{is_cut}
use Rattle.book.specs.Steps.{number_given, book_of}
use Rattle.book.specs.Run.{usable, record_answer, record_book}

-- ---- the places of a book ("The book"): all but the minute of the last step and the number given, whose values `May` tells
-- the month: days D and price P
pub data MonthPart : Type 0 where
  days price : MonthPart

-- a window: its two ends
pub data WindowPart : Type 0 where
  opening closing : WindowPart

-- an account: roles, requirement, margin figure, net at that figure
pub data AccountPart : Type 0 where
  roles requirement figure net : AccountPart

-- an allocation record: its parties, its quantity, its status with the minute of the asking
pub data AllocationPart : Type 0 where
  generator customer quantity status : AllocationPart

-- in the month, a window, a participant's account, the table of levels, or the ledger
pub data Place : Type 0 where
  in_month : MonthPart → Place
  in_window : ℕ → WindowPart → Place
  in_account : ℕ → AccountPart → Place
  in_levels : ℕ → Place
  in_ledger : ℕ → AllocationPart → Place

-- ---- a place holds what it held
-- in the month
abbrev pub SameMonth : MonthPart → Month → Month → Type 0
SameMonth days m m' = m'.days ≡ m.days
SameMonth price m m' = m'.price ≡ m.price

-- in a window
abbrev pub SameWindow : WindowPart → W.Window → W.Window → Type 0
SameWindow opening w w' = w'.opening ≡ w.opening
SameWindow closing w w' = w'.closing ≡ w.closing

-- in an account
abbrev pub SameAccount : AccountPart → Account → Account → Type 0
SameAccount roles a a' = a'.roles ≡ a.roles
SameAccount requirement a a' = a'.requirement ≡ a.requirement
SameAccount figure a a' = a'.margin.figure ≡ a.margin.figure
SameAccount net a a' = a'.margin.net ≡ a.margin.net

-- in an allocation record
abbrev pub SameAllocation : AllocationPart → Allocation → Allocation → Type 0
SameAllocation generator a a' = a'.generator ≡ a.generator
SameAllocation customer a a' = a'.customer ≡ a.customer
SameAllocation quantity a a' = a'.quantity ≡ a.quantity
SameAllocation status a a' = a'.status ≡ a.status

-- in the book
abbrev pub Same : Place → Book → Book → Type 0
Same (in_month f) b b' = SameMonth f b.month b'.month
Same (in_window k f) b b' = SameWindow f (get_or b.month.windows k no_window) (get_or b'.month.windows k no_window)
Same (in_account p f) b b' = SameAccount f (account b p) (account b' p)
Same (in_levels i) b b' = get_or b'.levels i 0 ≡ get_or b.levels i 0
Same (in_ledger i f) b b' = SameAllocation f (get_or b.ledger i no_allocation) (get_or b'.ledger i no_allocation)

-- the tables are as long as they were
pub record SameLengths (b b' : Book) : Type 0 where
  pub windows : length b'.month.windows ≡ length b.month.windows
  pub accounts : length b'.accounts ≡ length b.accounts
  pub levels : length b'.levels ≡ length b.levels
  pub ledger : length b'.ledger ≡ length b.ledger

-- ---- the table ("The step record", the column "Does")
-- a participant's levels of a kind, on each day from one to D
abbrev pub LevelsFrom : Book → ℕ → ℕ → ℕ → Place → Type 0
LevelsFrom b p kind first x = (day : ℕ) × (first ≤ day) × (day ≤ b.month.days) × (x ≡ in_levels (level_place p kind day))

-- the places that a done step may alter, in the order of the kinds; SUBMIT's is the record after those given, all of it
abbrev pub Alters : Book → Step → Place → Type 0
Alters b (Open d p t) x = (x ≡ in_month days) ⊎ (x ≡ in_month price)
Alters b (Window s e t) x = x ≡ in_window ((s - 1) % 4) (cond (leb s 4) opening closing)
Alters b (Register a r t) x = x ≡ in_account a roles
Alters b (Requirement a q t) x = x ≡ in_account a requirement
Alters b (Margin a f t) x = (x ≡ in_account a figure) ⊎ (x ≡ in_account a net)
Alters b (Create a k d q t) x = LevelsFrom b a k d x
Alters b (Terminate a k d q t) x = LevelsFrom b a k d x
Alters b (Submit a c q t) x = (f : AllocationPart) × (x ≡ in_ledger b.month.given f)
Alters b (Withdraw a n t) x = x ≡ in_ledger (n - 1) status
Alters b (Accept a n t) x = x ≡ in_ledger (n - 1) status
Alters b (AskReversal a n t) x = x ≡ in_ledger (n - 1) status
Alters b (AgreeReversal a n t) x = x ≡ in_ledger (n - 1) status
Alters b (GeneratorAmends a n q t) x = x ≡ in_ledger (n - 1) quantity
Alters b (OperatorAmends a t) x = (i : ℕ) × (is_cut a (get_or b.ledger i no_allocation) ≡ true) × (x ≡ in_ledger i quantity)

-- what a done step may make of a book
pub record May (s : Step) (b b' : Book) : Type 0 where
  -- a done step stores its minute
  pub minute : b'.month.last ≡ time_of s
  -- SUBMIT gives the next number, and no other step gives one
  pub given : b'.month.given ≡ cond (is SUBMIT s) (b.month.given + 1) b.month.given
  pub lengths : SameLengths b b'
  -- each place is one that the step may alter, or holds what it held
  pub each : (x : Place) → Alters b s x ⊎ Same x b b'

-- ---- the answers ("Reasons for refusal")
-- a refused step or record: a reason, number 0, and a book that is as it was
pub record Refused (b b' : Book) (a : Answer) : Type 0 where
  pub reason : a.reason ≢ 0
  pub number : a.number ≡ 0
  pub same : b' ≡ b

-- a done record: it is a step's, the book can be used, no reason applies to the step, and answer and book are that step's
pub record Done (b : Book) (bytes : List ℕ) : Type 0 where
  pub step : Step
  pub decoded : decode_of bytes ≡ Some step
  pub usable_book : usable b ≡ true
  pub reason : reason_of b step ≡ 0
  pub answer : record_answer b bytes ≡ record { reason = 0; number = number_given b step }
  pub book : record_book b bytes ≡ book_of b step
