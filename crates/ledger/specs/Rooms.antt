-- What a step leaves of a sound book, in document 01's words, with the totals of the ledger that is left; and what each room promises: the same on every
-- sound book with the parts that the room is given, whatever the others are, and those stay. Assumes nothing.
use Rattle.std.specs.Prelude.{◌≡◌, false, cond, List, ℕ, ◌+◌, ◌-◌, ◌≤◌, ◌<◌, eqb, nat_abs, Option, Some}
use Rattle.record.specs.declared.Step.{Step}
use Rattle.book.specs.declared.Month.{Month}
use Rattle.book.specs.declared.Account.{Account}
use Rattle.book.specs.declared.Allocation.{Allocation}
use Rattle.book.specs.Book.{Book, account, participants, most_end, most_days, most_level}
use Rattle.book.specs.Words.{level_place}
use Rattle.book.specs.Reasons.{reason_of}
use Rattle.book.specs.Steps.{changed, book_of}
use Rattle.book.specs.Run.{decoded_answer, decoded_book}
use Rattle.sound.specs.Check.{book_from}
use Rattle.gate.specs.declared.MonthChange.{MonthChange}
use Rattle.gate.specs.declared.MonthChange.TheVariants.{Open, Window}
use Rattle.gate.specs.declared.MonthStep.{MonthStep}
use Rattle.gate.specs.declared.AccountStep.{AccountStep}
use Rattle.gate.specs.declared.LevelStep.{LevelStep}
use Rattle.gate.specs.Rooms.{creates, month_step, account_step, level_step}
use Rattle.sound.specs.declared.made.Totals.{Totals}
use Rattle.ledger.specs.Ready.{Totalled, Ready}
use Rattle.ledger.specs.Judging.{blocked_in}
use Rattle.ledger.specs.Writing.{Stepped, moved_by}

-- the book and the answer are document 01's, and the totals are those of the ledger
pub record DoesStep (b : Book) (d : Option Step) (r : Stepped) (accounts : List Account) (lv : List ℕ) (ledger : List Allocation) (ts : List Totals) : Type 0 where
  pub book : book_from r.month accounts lv ledger ≡ decoded_book b d
  pub answer : r.answer ≡ decoded_answer b d
  pub totals : Totalled ts ledger

-- ---- the month room: it is given the month
abbrev pub MonthRoom : Month → MonthStep → Stepped → Type 0
MonthRoom m x r =
    (accounts : List Account) (lv : List ℕ) (ledger : List Allocation) (ts : List Totals) → Totalled ts ledger
    → DoesStep (book_from m accounts lv ledger) (Some (month_step x)) r accounts lv ledger ts

-- a change whose numbers are inside their ranges
abbrev pub ChangeFits : MonthChange → Type 0
ChangeFits (Open d p) = Unit {0}
ChangeFits (Window s e) = (0 < s) × (nat_abs e.0 ≤ most_end)

-- ---- the account room: it is given the month and the totals, and lent the accounts
abbrev pub AccountRoom : Month → List Account → List Totals → AccountStep → Stepped → List Account → Type 0
AccountRoom m accounts ts x r accounts' =
    (lv : List ℕ) (ledger : List Allocation) → Ready (book_from m accounts lv ledger) ts
    → DoesStep (book_from m accounts lv ledger) (Some (account_step x)) r accounts' lv ledger ts

-- ---- the levels room: it is given the month and the accounts, and lent the levels
abbrev pub LevelsRoom : Month → List Account → List ℕ → LevelStep → Stepped → List ℕ → Type 0
LevelsRoom m accounts lv x r lv' =
    (ledger : List Allocation) (ts : List Totals) → Ready (book_from m accounts lv ledger) ts
    → DoesStep (book_from m accounts lv ledger) (Some (level_step x)) r accounts lv' ledger ts

-- a step whose numbers are inside their ranges
pub record StepFits (m : Month) (x : LevelStep) : Type 0 where
  pub party : x.participant < participants
  pub kind_low : 0 < x.kind
  pub kind_high : x.kind ≤ 4
  pub day_low : 0 < x.day
  pub day_high : x.day ≤ m.days
  pub days : m.days ≤ most_days
  pub quantity : x.quantity.0 ≤ most_level

-- reason 14 and the levels as they were, or 0 and those from the step's day to D raised or lowered
abbrev pub Moved : Month → List ℕ → LevelStep → ℕ → List ℕ → Type 0
Moved m lv x r lv' =
    let from : ℕ = level_place x.participant x.kind x.day in
    let days : ℕ = m.days + 1 - x.day in
    (r ≡ cond (blocked_in (creates x.change) x.quantity.0 lv from days) 14 0)
    × (lv' ≡ cond (blocked_in (creates x.change) x.quantity.0 lv from days) lv (changed (moved_by (creates x.change) x.quantity.0) lv from days))

-- who has roles has an account
abbrev pub Known : ℕ → ℕ → Type 0
Known roles p = eqb roles 0 ≡ false → p < participants

-- on every book with this month, these roles of A and these levels: the reason, or 0, and the levels afterwards
abbrev pub Credited : Month → ℕ → List ℕ → LevelStep → ℕ → List ℕ → Type 0
Credited m roles lv x r lv' =
    (b : Book) → b.month ≡ m → (account b x.participant).roles ≡ roles → b.levels ≡ lv → (r ≡ reason_of b (level_step x)) × (lv' ≡ (book_of b (level_step x)).levels)
