-- Reasons 12 to 15 of document 01's table for a step that alters one allocation: the tests of the code (`late_by`), by how the participant that the step
-- is judged by stands, are the table's on every book where it stands so. By kind. Assumes nothing.
use mathlib.Core.Path.{◌≡◌, refl}
use mathlib.Core.Bool.{true}
use Prim.Native.Nat.{ℕ}
use Rattle.units.specs.declared.Minutes.{Minutes}
use Rattle.book.specs.declared.Allocation.{Allocation}
use Rattle.book.specs.Book.{Book, account, allocation}
use Rattle.book.specs.Words.{pending, accepted, received}
use Rattle.book.specs.Reasons.{late, lowest, reason12, reason13, reason14, reason15}
use Rattle.reasons.proofs.Chain.{lines}
use Rattle.gate.specs.declared.Trade.{Trade}
use Rattle.gate.specs.declared.Trade.TheVariants.{Submit, Accept, AgreeReversal, Amend}
use Rattle.gate.specs.Doors.{number_in}
use Rattle.gate.specs.Rooms.{trades}
use Rattle.ledger.specs.declared.standing.Standing.{Standing}
use Rattle.ledger.specs.Judging.{judged_by, named, late_by}

-- how the participant that a trade of p is judged by stands in a book, with the record at hand
pub record StandsIn (b : Book) (s : Standing) (here : Allocation) (p : ℕ) (y : Trade) : Type 0 where
  pub month : b.month ≡ s.month
  pub levels_are : b.levels ≡ s.levels.now
  pub here_is : named y ≡ true → allocation b (number_in y) ≡ here
  pub judged : account b (judged_by p y here) ≡ s.account
  pub pending_is : pending b (judged_by p y here) ≡ s.totals.pending.0
  pub made : accepted b (judged_by p y here) ≡ s.totals.made.0
  pub received_is : received b (judged_by p y here) ≡ s.totals.received.0

module _ (b : Book) (s : Standing) (here : Allocation) (p : ℕ) (t : Minutes) where
  pub late_is : (y : Trade) → StandsIn b s here p y → late_by s here p t y ≡ lowest late b (trades p y t)
  unfolding late_by reason12 reason13 reason14 reason15
  late_is (Submit c q) j = rw (← j.month, ← j.levels_are, ← j.judged, ← j.pending_is, ← j.made, ← j.received_is) (simp lines)
  late_is (Accept n) j = rw (← j.month, ← j.levels_are, ← j.judged, ← j.pending_is, ← j.made, ← j.received_is, ← j.here_is refl) (simp lines)
  late_is (AgreeReversal n) j = rw (← j.month, ← j.judged, ← j.made, ← j.received_is, ← j.here_is refl) (simp lines)
  late_is (Amend n q) j = rw (← j.month, ← j.levels_are, ← j.made, ← j.here_is refl) (simp lines)
  late_is _ j = refl
