-- What the doors' proofs share: document 01's table of reasons 2 to 11, opened (`opened`), and kinds that name an allocation (`named`): where the number
-- named was not given, reason 5 comes before the record matters, and where it was, the record is the book's. Assumes nothing.
use mathlib.Core.Path.{◌≡◌, refl, ◌∙◌}
use mathlib.Core.Bool.{or-true}
use Prim.Native.Nat.{ℕ}
use Rattle.units.specs.declared.Minutes.{Minutes}
use Rattle.units.specs.declared.Thousandths.{Thousandths}
use Rattle.record.specs.declared.Step.{Step}
use Rattle.record.specs.declared.Step.TheVariants as S
use Rattle.book.specs.declared.Month.{Month}
use Rattle.book.specs.declared.Allocation.{Allocation}
use Rattle.book.specs.Book.{Book, account, allocation}
use Rattle.book.specs.Reasons.{not_given, early, lowest, reason2, reason3, reason4, reason5, reason6, in_range, reason8, reason9, reason10, reason11}
use Rattle.reasons.specs.Chain.{first}
use Rattle.reasons.proofs.Chain.{lines, first_first, either_way}
use Rattle.gate.specs.declared.LevelChange.{LevelChange}
use Rattle.gate.specs.declared.LevelChange.TheVariants.{Create, Terminate}
use Rattle.gate.specs.declared.Trade.{Trade}
use Rattle.gate.specs.declared.AllocationStep.{AllocationStep}
use Rattle.gate.specs.declared.trades.Asked.{Asked}
use Rattle.gate.specs.Rooms.{credits, trades}
use Rattle.gate.specs.Doors.{number_in, ByTrade}
use Rattle.gate.specs.Shared.{as_named}

-- for an `unfolding` line: to unfold this is to unfold each of reasons 2 to 11
unfoldable pub opened : Book → Step → ℕ
unfolding reason2 reason3 reason4 reason5 reason6 in_range reason8 reason9 reason10 reason11
opened = lowest early

-- CREATE and TERMINATE have one door
pub one_door : (b : Book) (change : LevelChange) (p k d : ℕ) (q : Thousandths) (t : Minutes)
    → lowest early b (credits change p k d q t) ≡ lowest early b (S.Create p k d q t)
unfolding opened
one_door b Create p k d q t = refl
one_door b Terminate p k d q t = refl

-- what a step sees of a book that names an allocation
abbrev pub asked : Book → ℕ → ℕ → Minutes → Asked
asked b p n t = record { month = b.month; roles = (account b p).roles; here = allocation b n; party = p; at = t }

-- a kind that names an allocation: on every book it is refused for `as_named`, or else for the rest of its reasons
pub record Named (trade : ℕ → Trade) (party : Allocation → ℕ) (rest : Month → Minutes → Allocation → ℕ) : Type 0 where
  pub names : (n : ℕ) → number_in (trade n) ≡ n
  pub on : (b : Book) (p n : ℕ) (t : Minutes)
      → first (as_named (asked b p n t) (party (allocation b n)) n) (rest b.month t (allocation b n)) ≡ lowest early b (trades p (trade n) t)

-- so it is too by a record that is the book's where the number was given
pub named : {trade : ℕ → Trade} {party : Allocation → ℕ} {rest : Month → Minutes → Allocation → ℕ} → Named trade party rest
    → (m : Month) (roles customers : ℕ) (here : Allocation) (x : AllocationStep) (n : ℕ) {r : ℕ} → x.trade ≡ trade n
    → r ≡ first (as_named (record { month = m; roles = roles; here = here; party = x.party; at = x.at }) (party here) n) (rest m x.at here)
    → ByTrade m roles customers here x r
named kind m roles customers here x n is e b e-m e-r _ h =
    let given = rw (is, kind.names n) at h in
    rw (e, is, ← e-m, ← e-r) (either_way (not_given b n) (λ e. simp first_first (simp (lines, e, or-true))) (λ e. rw (given e)) ∙ kind.on b x.party n x.at)
