-- Document 01's table in two: the lowest reason of the whole is the lowest of 2 to 11, or where none of those applies, of 12 to 15. Assumes nothing.
use mathlib.Core.Path.{◌≡◌, sym, ◌∙◌}
use mathlib.Core.Bool.{true, false}
use Prim.Native.Nat.{ℕ}
use lib.Dec.{eqb}
use borrow.Author.Tests.{eqb-true}
use Rattle.record.specs.declared.Step.{Step}
use Rattle.book.specs.Book.{Book}
use Rattle.book.specs.Reasons.{early, late, lowest, reason_of}
use Rattle.reasons.specs.Chain.{first}
use Rattle.reasons.proofs.Chain.{line_first, none_first, either_way}

pub reason_split : (b : Book) (s : Step) → reason_of b s ≡ first (lowest early b s) (lowest late b s)
unfolding reason_of
reason_split b s = simp (line_first, none_first)

module _ (b : Book) (s : Step) (n : ℕ) (e : n ≡ lowest early b s) where
  -- refused at the door
  pub at_door : eqb n 0 ≡ false → n ≡ reason_of b s
  unfolding first
  at_door z = sym (reason_split b s ∙ rw (← e, z))

  -- let in: what is left of the table
  pub let_in : eqb n 0 ≡ true → lowest late b s ≡ reason_of b s
  unfolding first
  let_in z = sym (reason_split b s ∙ rw (← e, z))

  -- a step to which no later reason applies
  pub no_later : lowest late b s ≡ 0 → n ≡ reason_of b s
  no_later none = either_way (eqb n 0) (λ z. eqb-true n 0 z ∙ sym none ∙ let_in z) at_door
