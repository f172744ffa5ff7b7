-- The three demands, and the settlement desk's first question, as statements about document 01's rules and about the public functions. Each is a
-- record whose fields are what is asked; `proofs/Demands` proves each field by citing the crate that has it. Assumes nothing.
use Rattle.std.specs.Prelude.{◌≡◌, ◌⊎◌, ◌≢◌, ◌↔◌, Bool, true, false, List, map, ℕ, suc, ◌+◌, ◌-◌, ◌^◌, ◌≤◌, ◌<◌, get_or, replicate, Some, None}
use Rattle.units.specs.declared.Minutes.{Minutes}
use Rattle.share.specs.Totals.{at}
use Rattle.share.specs.Nearness.{Nearest}
use Rattle.record.specs.declared.Step.{Step}
use Rattle.record.specs.declared.Step.TheVariants.{OperatorAmends}
use Rattle.record.specs.Bytes.{AreBytes}
use Rattle.record.specs.Record.{decode_of, bytes_of}
use Rattle.book.specs.Book.{Book, fresh, is_open}
use Rattle.book.specs.Words.{tradeable}
use Rattle.book.specs.Reasons.{Line, table, reason_of}
use Rattle.book.specs.Steps.{book_of}
use Rattle.book.specs.Settlement.{reason16}
use Rattle.book.specs.Run.{usable, decoded_answer, decoded_book, record_answer, record_book, records_of, book_after, answer_at}
use Rattle.book.specs.Frame.{May, Done, Refused}
use Rattle.book.specs.Origin.{origin_of, puts_at, quantity_after, Origin}
use Rattle.book.proofs.CutPromise.{quantities}
use Rattle.book.proofs.Closing.{Closed}
use Rattle.ledger.proofs.step.Statement as step
use Rattle.ledger.proofs.run.Statement as run
use Rattle.settlement.proofs.settle.Statement as settle
use Rattle.record.proofs.decode.Statement as decode
use Rattle.record.proofs.encode.Statement as encode
use Rattle.ledger.specs.Running.{records_in}
use Rattle.audit.specs.declared.origin.Followed.{Followed}
use Rattle.audit.specs.Following.{Follows}
use Rattle.audit.proofs.Following.{Answered}
use Rattle.audit.proofs.follow.Statement as follow

-- the tests of reasons 2 to 15 for a step on a book, in the order of the table
abbrev pub tests : Book → Step → List Bool
tests b s = map (λ (l : Line). l.applies b s) table

-- r is the lowest number that applies, where the first of the tests has number n, or it is 0 and none applies
pub record Lowest (n : ℕ) (ts : List Bool) (r : ℕ) : Type 0 where
  pub none : r ≡ 0 → (k : ℕ) → get_or ts k false ≡ false
  pub numbered : r ≢ 0 → n ≤ r
  pub applies : r ≢ 0 → get_or ts (r - n) false ≡ true
  pub before : r ≢ 0 → (k : ℕ) → n + k < r → get_or ts k false ≡ false

-- DEMAND 1. Every step record, damaged or not, and every lent book gets an answer. A step that may not be done gets the reason of document 01's table,
-- and the book is then exactly as it was. No caller has to test anything first.
pub record Demand1 : Type 2 where
  -- any bytes on any book: a done step, or refused with a reason, number 0, and the book as it was
  pub answered : (b : Book) (bytes : List ℕ) → Done b bytes ⊎ Refused b (record_book b bytes) (record_answer b bytes)
  -- the reason is 1 exactly where the book cannot be used or the bytes say no step
  pub first : (b : Book) (bytes : List ℕ) → ((record_answer b bytes).reason ≡ 1) ↔ ((usable b ≡ false) ⊎ (decode_of bytes ≡ None))
  -- any other is the lowest of the table that applies
  pub lowest : (b : Book) (bytes : List ℕ) (s : Step) → usable b ≡ true → decode_of bytes ≡ Some s → Lowest 2 (tests b s) (record_answer b bytes).reason
  -- `ledger::step` answers and leaves just that, whatever it is lent and given (its contract, `Answers`, for all inputs)
  pub step_does : {M : Type 1} → step.statement M

-- DEMAND 2. Each step, over any sequence from a fresh book, gives the answer, ledger and settlement quantities of the procedure as document 01 reads it,
-- and alters only the records that document names for it. Well-formed records read and written again are the same bytes.
pub record Demand2 : Type 2 where
  -- on the way from a fresh book no book is unsound: the answer to each record, and the book after it, are those of its step
  pub answers : (records : ℕ → List ℕ) (n : ℕ) → answer_at fresh records n ≡ decoded_answer (book_after fresh records n) (decode_of (records n))
  pub books : (records : ℕ → List ℕ) (n : ℕ) → book_after fresh records (suc n) ≡ decoded_book (book_after fresh records n) (decode_of (records n))
  -- a done step alters only what its kind may, by the table `Alters`
  pub alters : (b : Book) (s : Step) → reason_of b s ≡ 0 → May s b (book_of b s)
  -- settlement's totals are those of the ledger, and all tradeable credits are all received and all left
  pub closes : (b : Book) → usable b ≡ true → is_open b ≡ true → reason16 b ≡ false → Closed b
  -- well-formed bytes read and written again
  pub again : (bytes : List ℕ) (s : Step) → AreBytes bytes → decode_of bytes ≡ Some s → bytes_of s ≡ bytes
  -- `ledger::run` gives these answers and this book for a whole history, on any lent book (its contract, `Runs`)
  pub run_does : {M : Type 1} → run.statement M
  -- `settlement::settle` gives document 01's figures, or writes nothing (`Settles`)
  pub settle_does : {M : Type 1} → settle.statement M
  -- `record::decode` and `record::encode` read and write as `decode_of` and `bytes_of` do
  pub decode_does : {M : Type 1} → decode.statement M
  pub encode_does : {M : Type 1} → encode.statement M

-- DEMAND 3. The operator's cut: whole thousandths, none above its old quantity, in total the tradeable credits; no other list of non-negative whole
-- thousandths with that total lies nearer to the exact proportional shares, adding up the distances; among equally near lists ours is the larger at the
-- lowest allocation number where they differ. A record that is not cut has weight 0, so that a list over the whole ledger is one over those cut.
pub record Demand3 (b : Book) (g : ℕ) (t : Minutes) : Type 0 where
  -- in total the tradeable credits, the nearest, and the larger at the first difference
  pub nearest : Nearest (quantities g b.ledger) (tradeable b g) (quantities g (book_of b (OperatorAmends g t)).ledger)
  -- no other list is that
  pub only : (y : List ℕ) → Nearest (quantities g b.ledger) (tradeable b g) y → y ≡ quantities g (book_of b (OperatorAmends g t)).ledger
  -- none above its old quantity
  pub within : (i : ℕ) → at (quantities g (book_of b (OperatorAmends g t)).ledger) i ≤ at (quantities g b.ledger) i

-- QUESTION 1. For any quantity in the ledger, which step put it there, and can you show that nothing else could have?
pub record Question1 : Type 2 where
  -- after m records from a fresh book, each number given has its origin: the done step at that printed place put this quantity, and no later record
  -- altered it
  pub origin : (records : ℕ → List ℕ) (m n : ℕ) → 1 ≤ n → n ≤ (book_after fresh records m).month.given → Origin fresh records n m (origin_of fresh records n m)
  -- no other place has these properties
  pub only : (b : Book) (records : ℕ → List ℕ) (n m k : ℕ) → Origin b records n m k → k ≡ origin_of b records n m
  -- a record that puts no quantity of an allocation leaves it as it is
  pub no_other : (b : Book) (records : ℕ → List ℕ) (n i : ℕ) → 1 ≤ n → puts_at b records n i ≡ false → quantity_after b records n (suc i) ≡ quantity_after b records n i
  -- `audit::follow` works the origin out (its contract, `Follows`), and what it says of a history from a fresh book is that origin
  pub follow_does : {M : Type 1} → follow.statement M
  pub followed : (history : List ℕ) (r : Followed) (lv : List ℕ) → Follows fresh history 0 (replicate 256 None) r lv → records_in history < 2 ^ 64
      → (i : ℕ) → i < r.book.month.given → i < 256 → Answered (records_of history) (suc i) (records_in history) (get_or r.puts i None)
