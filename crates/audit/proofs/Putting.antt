-- One record: what its step says of a quantity is what document 01 says of it, kind by kind (`said_puts_lem`), so that the answer's reason and the record
-- together tell what stands for each allocation (`put_after_lem`). Assumes nothing.
use mathlib.Core.Path.{◌≡◌, refl, sym, ap}
use mathlib.Core.Bool.{cond, ◌&&◌}
use mathlib.Core.List.{List}
use Prim.Native.Nat.{ℕ, suc, ◌-◌}
use native.Mathlib.Omega.{arith}
use lib.Dec.{eqb}
use lib.ListN.{get_or}
use Rattle.std.specs.Prelude.{Option, Some, None}
use Rattle.record.specs.declared.Step.{Step}
use Rattle.record.specs.declared.Step.TheVariants.{Open, Window, Register, Requirement, Margin, Create, Terminate, Submit, Withdraw, Accept, AskReversal, AgreeReversal, GeneratorAmends, OperatorAmends}
use Rattle.record.specs.Record.{decode_of}
use Rattle.book.specs.Book.{Book, no_allocation}
use Rattle.book.specs.Cut.{is_cut}
use Rattle.book.specs.Run.{record_answer}
use Rattle.book.specs.Origin.{puts, decoded_puts, record_puts}
use Rattle.audit.specs.declared.origin.Put.{Put}
use Rattle.audit.specs.Following.{put_in, put_after}
use Rattle.audit.specs.Putting.{puts_by, said_puts}

module _ (b : Book) (i : ℕ) where
  step_puts : (s : Step) → puts b s (suc i) ≡ puts_by s b.month.given (suc i) (get_or b.ledger i no_allocation)
  unfolding puts puts_by
  step_puts (Open d p t) = refl
  step_puts (Window s e t) = refl
  step_puts (Register a r t) = refl
  step_puts (Requirement a q t) = refl
  step_puts (Margin a f t) = refl
  step_puts (Create a k d q t) = refl
  step_puts (Terminate a k d q t) = refl
  step_puts (Submit a c q t) = refl
  step_puts (Withdraw a n t) = refl
  step_puts (Accept a n t) = refl
  step_puts (AskReversal a n t) = refl
  step_puts (AgreeReversal a n t) = refl
  step_puts (GeneratorAmends a n q t) = refl
  step_puts (OperatorAmends a t) = let here : suc i - 1 ≡ i = omega arith in ap (λ k. is_cut a (get_or b.ledger k no_allocation)) here

  said_puts_lem : (d : Option Step) → decoded_puts b d (suc i) ≡ said_puts d b.month.given (suc i) (get_or b.ledger i no_allocation)
  unfolding decoded_puts said_puts
  said_puts_lem (Some s) = step_puts s
  said_puts_lem None = refl

  -- what stands for an allocation after a record, from the reason of its answer and what it says
  pub put_after_lem : (bytes : List ℕ) (place reason : ℕ) (before : Option Put) → reason ≡ (record_answer b bytes).reason
      → cond (eqb reason 0 && said_puts (decode_of bytes) b.month.given (suc i) (get_or b.ledger i no_allocation)) (put_in place (decode_of bytes)) before ≡ put_after b bytes place before (suc i)
  unfolding put_after record_puts
  put_after_lem bytes place reason before e = ap (λ t. cond t (put_in place (decode_of bytes)) before) (λ k. eqb (e k) 0 && sym (said_puts_lem (decode_of bytes)) k)
