-- The two ways that a step ends: refused for its reason, with the book as it was, or done, with what document 01 writes. Assumes nothing.
use mathlib.Core.Path.{◌≡◌, refl, sym, ap, ◌∙◌}
use mathlib.Core.Bool.{Bool, true, false, false≢true}
use mathlib.Core.List.{List}
use Prim.Native.Nat.{ℕ}
use lib.Dec.{eqb}
use Rattle.std.specs.Prelude.{Option, Some, None, Ok, Err, unwrap_or}
use Rattle.record.specs.declared.Step.{Step}
use Rattle.book.specs.declared.Answer.{Answer}
use Rattle.book.specs.declared.Month.{Month}
use Rattle.book.specs.declared.Account.{Account}
use Rattle.book.specs.declared.Allocation.{Allocation}
use Rattle.book.specs.Book.{Book}
use Rattle.book.specs.Reasons.{reason_of}
use Rattle.book.specs.Steps.{done, number_given, answer_of, book_of}
use Rattle.book.specs.Run.{decoded_answer, decoded_book}
use Rattle.reasons.specs.declared.Reason.{Reason}
use Rattle.reasons.specs.declared.Reason.TheVariants as R
use Rattle.reasons.specs.Numbers.{reason_number}
use Rattle.sound.specs.Check.{book_from}
use Rattle.sound.specs.declared.made.Totals.{Totals}
use Rattle.ledger.specs.Ready.{Totalled}
use Rattle.ledger.specs.Writing.{stepped}
use Rattle.ledger.specs.Rooms.{DoesStep}

-- no reason has the number of a done step
pub refusing : (r : Reason) → eqb (reason_number r) 0 ≡ false
refusing R.Unusable = refl
refusing R.NoMonth = refl
refusing R.Already = refl
refusing R.BeforeLast = refl
refusing R.Unknown = refl
refusing R.WrongParty = refl
refusing R.Outside = refl
refusing R.Closed = refl
refusing R.WrongStatus = refl
refusing R.WasWithdrawn = refl
refusing R.AllGiven = refl
refusing R.NotCovered = refl
refusing R.MarginFails = refl
refusing R.LevelPassed = refl
refusing R.NoExcess = refl
refusing R.Excess = refl

module _ (b : Book) (s : Step) where
  pub refuses : (r : Reason) → reason_number r ≡ reason_of b s → (ts : List Totals) → Totalled ts b.ledger → DoesStep b (Some s) (stepped b.month (Err r)) b.accounts b.levels b.ledger ts
  unfolding decoded_book decoded_answer book_of answer_of
  refuses r is ts h = let no : eqb (reason_of b s) 0 ≡ false = ap (λ k. eqb k 0) (sym is) ∙ refusing r in record { book = rw no; answer = rw (no, is); totals = h }

  pub does : 0 ≡ reason_of b s → {accounts : List Account} {lv : List ℕ} {ledger : List Allocation} {ts : List Totals} (m : Month) (n : Option ℕ)
      → book_from m accounts lv ledger ≡ done b s → unwrap_or n 0 ≡ number_given b s → Totalled ts ledger → DoesStep b (Some s) (stepped m (Ok n)) accounts lv ledger ts
  unfolding decoded_book decoded_answer book_of answer_of
  does is m n book number h = let yes : eqb (reason_of b s) 0 ≡ true = ap (λ k. eqb k 0) (sym is) in record { book = book ∙ rw yes; answer = rw (yes, number); totals = h }

-- a record that says no step
pub nowhere : (b : Book) (ts : List Totals) → Totalled ts b.ledger → DoesStep b None (stepped b.month (Err R.Unusable)) b.accounts b.levels b.ledger ts
unfolding decoded_book decoded_answer
nowhere b ts h = record { book = refl; answer = refl; totals = h }

-- a refused step leaves the month as it was
pub same_month : (b : Book) (d : Option Step) (m : Month) (r : Reason) {accounts : List Account} {lv : List ℕ} {ledger : List Allocation} {ts : List Totals} → DoesStep b d (stepped m (Err r)) accounts lv ledger ts → m ≡ b.month
unfolding decoded_book decoded_answer book_of answer_of
same_month b None m r h = ap (λ (x : Book). x.month) h.book
same_month b (Some s) m r h = by (eqb (reason_of b s) 0) refl
  where
    by : (z : Bool) → eqb (reason_of b s) 0 ≡ z → m ≡ b.month
    by true e = absurd (false≢true (sym (refusing r) ∙ ap (λ (a : Answer). eqb a.reason 0) h.answer ∙ rw e))
    by false e = ap (λ (x : Book). x.month) h.book ∙ rw e
