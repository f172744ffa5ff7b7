-- The settlement desk's first question: for any quantity in the ledger, which step put it there, and could anything else have. Three kinds put the
-- quantity of an allocation (`puts`). Its origin in a run is the last record that did (`origin_of`), and `Origin` says that this record put the very
-- quantity that the ledger now has, and that none after it put or altered one. Assumes nothing.
use Rattle.std.specs.Prelude.{◌≡◌, Bool, true, false, cond, ◌&&◌, List, map, ℕ, zero, suc, ◌+◌, ◌-◌, ◌≤◌, ◌<◌, eqb, get_or, Option, Some, None}
use Rattle.record.specs.declared.Step.{Step}
use Rattle.record.specs.declared.Step.TheVariants.{Open, Window, Register, Requirement, Margin, Create, Terminate, Submit, Withdraw, Accept, AskReversal, AgreeReversal, GeneratorAmends, OperatorAmends}
use Rattle.record.specs.Record.{decode_of}
use Rattle.share.specs.Shares.{share_of}
use Rattle.book.specs.Book.{Book, allocation}
use Rattle.book.specs.Words.{tradeable, accepted_in}
use Rattle.book.specs.Reasons.{quantity_at}
use Rattle.book.specs.Cut.{is_cut}
use Rattle.book.specs.Run.{record_answer, book_after, answer_at}

-- ---- a step
-- a done step puts the quantity of allocation n: SUBMIT gives that number, GENERATOR AMENDS names it, OPERATOR AMENDS cuts it ("Does", 8, 13 and 14)
unfoldable pub puts : Book → Step → ℕ → Bool
puts b (Open d p t) n = false
puts b (Window s e t) n = false
puts b (Register a r t) n = false
puts b (Requirement a q t) n = false
puts b (Margin a f t) n = false
puts b (Create a k d q t) n = false
puts b (Terminate a k d q t) n = false
puts b (Submit a c q t) n = eqb n (b.month.given + 1)
puts b (Withdraw a m t) n = false
puts b (Accept a m t) n = false
puts b (AskReversal a m t) n = false
puts b (AgreeReversal a m t) n = false
puts b (GeneratorAmends a m q t) n = eqb n m
puts b (OperatorAmends a t) n = is_cut a (allocation b n)

-- the share of allocation n in the cut of its generator g ("The operator's cut")
unfoldable pub cut_share : Book → ℕ → ℕ → ℕ
cut_share b g n = get_or (share_of (map (accepted_in g) b.ledger) (tradeable b g)) (n - 1) 0

-- the quantity that it puts there: the step's own, or the share in the cut; 0 for a step that puts none
unfoldable pub quantity_put : Book → Step → ℕ → ℕ
quantity_put b (Open d p t) n = 0
quantity_put b (Window s e t) n = 0
quantity_put b (Register a r t) n = 0
quantity_put b (Requirement a q t) n = 0
quantity_put b (Margin a f t) n = 0
quantity_put b (Create a k d q t) n = 0
quantity_put b (Terminate a k d q t) n = 0
quantity_put b (Submit a c q t) n = q.0
quantity_put b (Withdraw a m t) n = 0
quantity_put b (Accept a m t) n = 0
quantity_put b (AskReversal a m t) n = 0
quantity_put b (AgreeReversal a m t) n = 0
quantity_put b (GeneratorAmends a m q t) n = q.0
quantity_put b (OperatorAmends a t) n = cut_share b a n

-- ---- a record, and a run of them: records stand at 0, 1, 2 .., as in `Run`, and the desk prints 1, 2, 3 .. for their places
unfoldable pub decoded_puts : Book → Option Step → ℕ → Bool
decoded_puts b (Some s) n = puts b s n
decoded_puts b None n = false

-- the record was done, and puts the quantity of allocation n
unfoldable pub record_puts : Book → List ℕ → ℕ → Bool
record_puts b bytes n = eqb (record_answer b bytes).reason 0 && decoded_puts b (decode_of bytes) n

-- record i of the run does
abbrev pub puts_at : Book → (ℕ → List ℕ) → ℕ → ℕ → Bool
puts_at b records n i = record_puts (book_after b records i) (records i) n

-- the printed place of the last of the first m records that puts the quantity of allocation n; 0 for none
unfoldable pub origin_of : Book → (ℕ → List ℕ) → ℕ → ℕ → ℕ
origin_of b records n zero = 0
origin_of b records n (suc m) = cond (puts_at b records n m) (suc m) (origin_of b records n m)

-- the quantity of allocation n after the first m records
abbrev pub quantity_after : Book → (ℕ → List ℕ) → ℕ → ℕ → ℕ
quantity_after b records n m = quantity_at (book_after b records m) n

-- ---- the answer to the desk: after m records, the quantity of allocation n comes from the record printed at place k
pub record Origin (b : Book) (records : ℕ → List ℕ) (n m k : ℕ) : Type 0 where
  -- so many records stand before it, and it is one of the m
  pub before : ℕ
  pub place : k ≡ before + 1
  pub among : k ≤ m
  -- it was done, and is a step that puts the quantity of n
  pub done : (answer_at b records before).reason ≡ 0
  pub step : Step
  pub decoded : decode_of (records before) ≡ Some step
  pub puts_it : puts (book_after b records before) step n ≡ true
  -- what it put is the quantity right after it, and the quantity now
  pub put : quantity_after b records n k ≡ quantity_put (book_after b records before) step n
  pub now : quantity_after b records n m ≡ quantity_put (book_after b records before) step n
  -- no later record puts it, and after each of them the quantity is the same
  pub later : (i : ℕ) → k ≤ i → i < m → (puts_at b records n i ≡ false) × (quantity_after b records n (i + 1) ≡ quantity_after b records n k)
