-- What the code's own functions answer of one record: whether its step puts a quantity, from the step, the number of allocations given and the
-- allocation. `proofs/Putting` shows that this is `record_puts`. Assumes nothing.
use Rattle.std.specs.Prelude.{◌≡◌, Bool, false, cond, List, ℕ, suc, ◌+◌, ◌<◌, eqb, length, get_or, Option, Some, None}
use Rattle.record.specs.declared.Step.{Step}
use Rattle.record.specs.declared.Step.TheVariants.{Open, Window, Register, Requirement, Margin, Create, Terminate, Submit, Withdraw, Accept, AskReversal, AgreeReversal, GeneratorAmends, OperatorAmends}
use Rattle.book.specs.declared.Allocation.{Allocation}
use Rattle.book.specs.Book.{Book, no_allocation}
use Rattle.book.specs.Cut.{is_cut}
use Rattle.book.specs.Run.{record_book}
use Rattle.audit.specs.declared.origin.Put.{Put}
use Rattle.audit.specs.declared.origin.Followed.{Followed}
use Rattle.audit.specs.Following.{book_held, put_after}

-- a done step puts the quantity of allocation n, which is l: `puts` of a book in which so many numbers are given
unfoldable pub puts_by : Step → ℕ → ℕ → Allocation → Bool
puts_by (Open d p t) given n l = false
puts_by (Window s e t) given n l = false
puts_by (Register a r t) given n l = false
puts_by (Requirement a q t) given n l = false
puts_by (Margin a f t) given n l = false
puts_by (Create a k d q t) given n l = false
puts_by (Terminate a k d q t) given n l = false
puts_by (Submit a c q t) given n l = eqb n (given + 1)
puts_by (Withdraw a m t) given n l = false
puts_by (Accept a m t) given n l = false
puts_by (AskReversal a m t) given n l = false
puts_by (AgreeReversal a m t) given n l = false
puts_by (GeneratorAmends a m q t) given n l = eqb n m
puts_by (OperatorAmends a t) given n l = is_cut a l

-- what a record says, were it done
unfoldable pub said_puts : Option Step → ℕ → ℕ → Allocation → Bool
said_puts (Some s) given n l = puts_by s given n l
said_puts None given n l = false

-- for each allocation the step, where it puts the quantity, else what stood there
pub record PutEach (test : ℕ → Allocation → Bool) (ledger : List Allocation) (step : Option Put) (puts r : List (Option Put)) : Type 0 where
  pub long : length r ≡ 256
  pub each : (i : ℕ) → i < 256 → get_or r i None ≡ cond (test (suc i) (get_or ledger i no_allocation)) step (get_or puts i None)

-- one record followed
pub record FollowsOne (b : Book) (bytes : List ℕ) (place : ℕ) (puts : List (Option Put)) (r : Followed) (lv : List ℕ) : Type 0 where
  pub book_is : book_held r.book lv ≡ record_book b bytes
  pub long : length r.puts ≡ 256
  pub each : (i : ℕ) → i < 256 → get_or r.puts i None ≡ put_after b bytes place (get_or puts i None) (suc i)
