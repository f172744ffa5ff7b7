-- What a generator has pending and accepted in all is one total over the ledger, of what each allocation holds of its credits: the quantity while its
-- status is SUBMITTED, ACCEPTED or REVERSAL ASKED, else nothing. By cases on the status. Assumes nothing.
use mathlib.Core.Path.{◌≡◌, refl, ap, fun_ext, ◌∙◌}
use mathlib.Core.Bool.{Bool, true, false, cond, ◌&&◌, ◌||◌, and-false}
use mathlib.Core.List.{List}
use Prim.Native.Nat.{ℕ, ◌+◌}
use native.Mathlib.Omega.{arith}
use lib.Dec.{eqb}
use borrow.Author.Tests.{eqb-true}
use Rattle.book.specs.declared.Allocation.{Allocation}
use Rattle.book.specs.declared.Status.{Status}
use Rattle.book.specs.declared.Status.TheVariants.{Empty, Submitted, Withdrawn, Accepted, ReversalAsked, Reversed}
use Rattle.book.specs.Book.{no_allocation, status_number}
use Rattle.book.specs.Words.{is_pending, is_accepted, pending_in, accepted_in, total}
use Rattle.book.proofs.Sums.{total-add}

abbrev pub is_held : Status → Bool
is_held s = is_pending s || is_accepted s

abbrev pub held_in : ℕ → Allocation → ℕ
held_in p a = cond (eqb a.generator p && is_held a.status) a.quantity.0 0

pub held_in_lem : (p : ℕ) (a : Allocation) → pending_in p a + accepted_in p a ≡ held_in p a
unfolding pending_in accepted_in
held_in_lem p a = by (eqb a.generator p) a.status
  where
    by : (t : Bool) (s : Status) → cond (t && is_pending s) a.quantity.0 0 + cond (t && is_accepted s) a.quantity.0 0 ≡ cond (t && is_held s) a.quantity.0 0
    by false s = refl
    by true Empty = refl
    by true Submitted = omega arith
    by true Withdrawn = refl
    by true Accepted = omega arith
    by true (ReversalAsked t) = omega arith
    by true Reversed = refl

pub held_total : (p : ℕ) (l : List Allocation) → total (pending_in p) l + total (accepted_in p) l ≡ total (held_in p) l
held_total p l = total-add (pending_in p) (accepted_in p) l ∙ ap (λ f. total f l) (fun_ext (held_in_lem p))

pub held_empty : (p : ℕ) → held_in p no_allocation ≡ 0
held_empty p = rw and-false

-- the statuses that hold, by number
pub held_at : (s : Status) (n : ℕ) → eqb (status_number s) n ≡ true → (eqb n 1 || (eqb n 3 || eqb n 4)) ≡ true → is_held s ≡ true
held_at s n e h = by s ∙ ap (λ k. eqb k 1 || (eqb k 3 || eqb k 4)) (eqb-true (status_number s) n e) ∙ h
  where
    by : (s : Status) → is_held s ≡ (eqb (status_number s) 1 || (eqb (status_number s) 3 || eqb (status_number s) 4))
    by Empty = refl
    by Submitted = refl
    by Withdrawn = refl
    by Accepted = refl
    by (ReversalAsked t) = refl
    by Reversed = refl
