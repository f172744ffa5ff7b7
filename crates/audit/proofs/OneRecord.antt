-- One record, of 1 to 24 bytes, as a history of its own: a run does it alone, so that the book is the one after it and the word is its answer's. A reason
-- is below 32, so that the word's remainder is the reason (`reason_is`). Assumes nothing.
use mathlib.Core.Path.{◌≡◌, refl, ap, ◌∙◌}
use mathlib.Core.Logic.{◌≢◌}
use mathlib.Core.Bool.{Bool, true, false, cond, ◌&&◌, and-false}
use mathlib.Core.List.{List, [], ◌∷◌}
use Prim.Native.Nat.{ℕ, ◌≤◌, ◌<◌}
use native.Mathlib.Omega.{arith}
use lib.Dec.{eqb, leb}
use lib.ListN.{length, get_or, set}
use lib.Seq.{take_all, get_or-set_same}
use borrow.Author.Tests.{leb-true, eq-eqb, ne_eqb}
use Rattle.std.specs.Prelude.{Option, Some, None}
use Rattle.record.specs.declared.Step.{Step}
use Rattle.record.specs.Record.{decode_of}
use Rattle.book.specs.declared.Month.{Month}
use Rattle.book.specs.declared.Account.{Account}
use Rattle.book.specs.declared.Allocation.{Allocation}
use Rattle.book.specs.Book.{Book}
use Rattle.book.specs.Reasons.{Line, table, lowest, reason_of}
use Rattle.book.specs.Steps.{refusal, number_given, answer_of}
use Rattle.book.specs.Run.{usable, decoded_answer, record_answer, record_book, records_of, book_after, answer_at}
use Rattle.book.proofs.Tests.{and_left, and_right}
use Rattle.ledger.specs.Running.{reason_in, word_of, written, answered, Runs}
use Rattle.audit.specs.declared.origin.Put.{Put}
use Rattle.audit.specs.declared.origin.Followed.{Followed}
use Rattle.audit.specs.Following.{book_held, put_in}
use Rattle.audit.specs.Putting.{puts_by, said_puts, PutEach, FollowsOne}
use Rattle.audit.proofs.Putting.{put_after_lem}

-- ---- the reasons of the table are 15 at most
low : (t : Bool) (k r : ℕ) → k ≤ 15 → r ≤ 15 → cond t k r ≤ 15
low true k r h l = h
low false k r h l = l

-- every number of some lines is
abbrev small : List Line → Bool
small [] = true
small (l ∷ ls) = leb l.number 15 && small ls

lowest_low : (b : Book) (s : Step) (ls : List Line) → small ls ≡ true → lowest ls b s ≤ 15
lowest_low b s [] h = omega arith
lowest_low b s (l ∷ ls) h =
    let first = leb l.number 15 in
    low (l.applies b s) l.number (lowest ls b s) (leb-true l.number 15 (and_left first (small ls) h)) (lowest_low b s ls (and_right first (small ls) h))

step_low : (b : Book) (s : Step) → reason_of b s ≤ 15
unfolding reason_of
step_low b s = lowest_low b s table refl

decoded_low : (b : Book) (d : Option Step) → (decoded_answer b d).reason ≤ 15
unfolding decoded_answer answer_of
decoded_low b (Some s) = by (eqb (reason_of b s) 0)
  where
    by : (t : Bool) → (cond t (record { reason = 0; number = number_given b s }) (refusal (reason_of b s))).reason ≤ 15
    by true = omega arith
    by false = step_low b s
decoded_low b None = omega arith

reason_low : (b : Book) (bytes : List ℕ) → (record_answer b bytes).reason ≤ 15
unfolding record_answer
reason_low b bytes = by (usable b)
  where
    by : (t : Bool) → (cond t (decoded_answer b (decode_of bytes)) (refusal 1)).reason ≤ 15
    by true = decoded_low b (decode_of bytes)
    by false = omega arith

module _ {b : Book} {bytes room : List ℕ} {month : Month} {records : ℕ} {accounts : List Account} {lv : List ℕ} {ledger : List Allocation} {answers : List ℕ}
    (some : 0 < length bytes) (few : length bytes ≤ 24) (one : length room ≡ 1) (ran : Runs b bytes room month records accounts lv ledger answers) where
  alone : records ≡ 1
  alone = omega (arith, ran.records_are)

  whole : records_of bytes 0 ≡ bytes
  whole = take_all 24 bytes few

  left : book_after b (records_of bytes) records ≡ record_book b bytes
  unfolding book_after
  left = ap (book_after b (records_of bytes)) alone ∙ ap (record_book b) whole

  reason_is : reason_in (get_or answers 0 0) ≡ (record_answer b bytes).reason
  unfolding book_after answer_at written
  reason_is =
      let word = word_of (record_answer b bytes).reason (record_answer b bytes).number in
      let answer : answers ≡ set room 0 word =
      ran.does.answers_are ∙ ap (λ n. answered b (records_of bytes) n room) alone ∙ ap (λ x. set room 0 (word_of (record_answer b x).reason (record_answer b x).number)) whole in
      let stands : get_or answers 0 0 ≡ word = ap (λ l. get_or l 0 0) answer ∙ get_or-set_same room 0 word 0 (omega arith) in
      omega (arith, reason_low b bytes)

  -- what it leaves is one record followed, whatever book held whole and places of puts it is of
  pub follows_one : (place : ℕ) (puts : List (Option Put)) (r : Followed) (said : Option Step) → book_held r.book lv ≡ record { month = month; accounts = accounts; levels = lv; ledger = ledger }
      → said ≡ decode_of bytes → PutEach (λ n l. eqb (reason_in (get_or answers 0 0)) 0 && said_puts said b.month.given n l) b.ledger (put_in place said) puts r.puts
      → FollowsOne b bytes place puts r lv
  follows_one place puts r said h e p = record {
    book_is = h ∙ (λ j. record { month = ran.does.month_is j; accounts = ran.does.accounts_are j; levels = ran.does.levels_are j; ledger = ran.does.ledger_is j }) ∙ left;
    long = p.long;
    each = λ i o. rw e at (p.each i o) ∙ put_after_lem b i bytes place (reason_in (get_or answers 0 0)) (get_or puts i None) reason_is;
  }

-- ---- what stands after a record, by the reason of its answer and what it says
module _ (reason given : ℕ) (ledger : List Allocation) (step : Option Put) (puts : List (Option Put)) where
  -- a refused one leaves what stands there
  pub refused : (said : Option Step) → reason ≢ 0 → length puts ≡ 256 → PutEach (λ n l. eqb reason 0 && said_puts said given n l) ledger step puts puts
  refused said z e = record { long = e; each = λ i _. rw (ne_eqb reason 0 z) }

  -- one that says no step too
  pub no_step : length puts ≡ 256 → PutEach (λ n l. eqb reason 0 && said_puts None given n l) ledger step puts puts
  unfolding said_puts
  no_step e = record { long = e; each = λ i _. rw (and-false (eqb reason 0)) }

  -- a done step puts what it puts
  pub step_done : (s : Step) (r : List (Option Put)) → reason ≡ 0 → PutEach (puts_by s given) ledger step puts r → PutEach (λ n l. eqb reason 0 && said_puts (Some s) given n l) ledger step puts r
  unfolding said_puts
  step_done s r z p = record { long = p.long; each = λ i o. rw (eq-eqb reason 0 z) (p.each i o) }
