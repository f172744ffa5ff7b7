-- A run, record after record: a step leaves the totals those of the ledger, so each record of a history finds a sound book with the totals of its ledger
-- (`Stands`), and after the last one the book and the answers are the definition's. A book that may not be used stays as it was. Assumes nothing.
use mathlib.Core.Path.{◌≡◌, refl, sym, ap, subst, ◌∙◌}
use mathlib.Core.Bool.{true, false}
use mathlib.Core.List.{List, ◌++◌}
use Prim.Native.Nat.{ℕ, zero, suc, ◌+◌, ◌≤◌, ◌<◌}
use native.Mathlib.Numerals.{add-one}
use native.Mathlib.Omega.{arith}
use lib.ListN.{length, set, length-set, replicate, take, drop}
use Rattle.std.proofs.lemmas.List.{length-take-le, take-append-drop, set-append_left}
use Rattle.std.proofs.lemmas.List.Edits.{fill_none, fill_more}
use Rattle.std.specs.Prelude.{Err}
use Rattle.record.specs.Record.{decode_of}
use Rattle.book.specs.declared.Answer.{Answer}
use Rattle.book.specs.declared.Month.{Month}
use Rattle.book.specs.declared.Account.{Account}
use Rattle.book.specs.declared.Allocation.{Allocation}
use Rattle.book.specs.Book.{Book}
use Rattle.book.specs.Run.{usable, record_answer, record_book, records_of, book_after, answer_at}
use Rattle.book.proofs.Runs.{left, answered as record-answered, after_keeps}
use Rattle.reasons.specs.declared.Reason.TheVariants.{Unusable}
use Rattle.sound.specs.Check.{book_from}
use Rattle.sound.specs.Checking.{Checks}
use Rattle.sound.specs.declared.test.Checked.{Checked}
use Rattle.sound.proofs.Usable.{usable_totals}
use Rattle.sound.specs.declared.made.Totals.{Totals}
use Rattle.ledger.specs.Ready.{Totalled, Ready}
use Rattle.ledger.specs.Rooms.{DoesStep}
use Rattle.ledger.specs.Writing.{Stepped, stepped}
use Rattle.ledger.specs.Answering.{Answers}
use Rattle.ledger.specs.Running.{word_of, reason_in, number_in, turns_of, written, answered, Does, Runs}
use Rattle.ledger.proofs.Fitting.{totalled}

-- ---- a lent book, once it is checked
module _ (b : Book) (found : Checked) (c : Checks b found) (h : found.usable ≡ true) where
  checked_usable : usable b ≡ true
  checked_usable = sym c.usable_is ∙ h

  pub ready_checked : Ready b found.totals
  ready_checked = (checked_usable, totalled b found.totals checked_usable (usable_totals b found c h))

-- ---- one record
module _ (b : Book) (bytes : List ℕ) where
  -- what a step leaves is the record's
  pub answers_as : usable b ≡ true → (r : Stepped) (accounts : List Account) (lv : List ℕ) (ledger : List Allocation) (totals : List Totals) → DoesStep b (decode_of bytes) r accounts lv ledger totals → Answers b bytes r accounts lv ledger
  answers_as u r accounts lv ledger totals s = record { book = s.book ∙ sym (left b bytes u); answer = s.answer ∙ sym (record-answered b bytes u) }

  -- a book that is not usable is left as it was, and every record on it is answered 1
  pub answers_unusable : usable b ≡ false → Answers b bytes (stepped b.month (Err Unusable)) b.accounts b.levels b.ledger
  unfolding record_book record_answer
  answers_unusable e = record { book = rw e; answer = rw e }

-- ---- the words of the answers
abbrev word_for : Answer → ℕ
word_for x = word_of x.reason x.number

written_long : (word : ℕ → ℕ) (n : ℕ) (room : List ℕ) → length (written word n room) ≡ length room
unfolding written
written_long word zero room = refl
written_long word (suc n) room = length-set (written word n room) n (word n) ∙ written_long word n room

-- what is written to the front of the room, as a list of its own
front : (word : ℕ → ℕ) (n : ℕ) (xs ys : List ℕ) → n ≤ length xs → written word n (xs ++ ys) ≡ written word n xs ++ ys
unfolding written
front word zero xs ys h = refl
front word (suc n) xs ys h =
    ap (λ zs. set zs n (word n)) (front word n xs ys (omega arith)) ∙ set-append_left (written word n xs) ys n (word n) (omega (arith, written_long word n xs))

pub in_front : (word : ℕ → ℕ) (n : ℕ) (room : List ℕ) → n ≤ length room → written word n (take n room) ++ drop n room ≡ written word n room
in_front word n room h = sym (front word n (take n room) (drop n room) (omega (arith, length-take-le n room h))) ∙ ap (written word n) (take-append-drop n room)

-- and the same number all along
pub filled : (w n : ℕ) (room : List ℕ) → n ≤ length room → replicate n w ++ drop n room ≡ written (λ i. w) n room
unfolding written
filled w zero room h = sym (fill_none room w)
filled w (suc n) room h =
    ap (λ m. replicate m w ++ drop m room) (sym (add-one n)) ∙ sym (fill_more n w room (omega arith)) ∙ ap (λ ys. set ys n w) (filled w n room (omega arith))

written_same : (word other : ℕ → ℕ) → ((i : ℕ) → word i ≡ other i) → (n : ℕ) (room : List ℕ) → written word n room ≡ written other n room
unfolding written
written_same word other e zero room = refl
written_same word other e (suc n) room = λ k. set (written_same word other e n room k) n (e n k)

-- an answer is had back from its word
pub reason_back : (reason number : ℕ) → reason < 32 → reason_in (word_of reason number) ≡ reason
reason_back reason number r = omega arith

pub number_back : (reason number : ℕ) → reason < 32 → number < 65536 → number_in (word_of reason number) ≡ number
number_back reason number r n = omega arith

-- ---- a run
-- where it stands after i records
pub record Stands (b : Book) (history room : List ℕ) (i : ℕ) (month : Month) (accounts : List Account) (lv : List ℕ) (ledger : List Allocation) (totals : List Totals) (answers : List ℕ) : Type 0 where
  pub book : book_from month accounts lv ledger ≡ book_after b (records_of history) i
  pub totals_are : Totalled totals ledger
  pub answers_are : answers ≡ answered b (records_of history) i room

module _ (b : Book) (u : usable b ≡ true) (history room : List ℕ) where
  abbrev records : ℕ → List ℕ
  records = records_of history

  pub stands_first : (ts : List Totals) → Totalled ts b.ledger → Stands b history room 0 b.month b.accounts b.levels b.ledger ts room
  unfolding book_after written
  stands_first ts h = record { book = refl; totals_are = h; answers_are = refl }

  module _ (i : ℕ) (month : Month) (accounts : List Account) (lv : List ℕ) (ledger : List Allocation) (ts : List Totals) (answers : List ℕ) (stands : Stands b history room i month accounts lv ledger ts answers) where
    abbrev here : Book
    here = book_from month accounts lv ledger

    -- the next record has what it rests on
    pub ready_next : Ready here ts
    ready_next = (ap usable stands.book ∙ after_keeps b u records i, stands.totals_are)

    -- and once it is answered the run stands one further
    pub stands_next : (r : Stepped) (accounts' : List Account) (lv' : List ℕ) (ledger' : List Allocation) (ts' : List Totals) (answers' : List ℕ) → DoesStep here (decode_of (records i)) r accounts' lv' ledger' ts' → answers' ≡ set answers i (word_of r.answer.reason r.answer.number) → Stands b history room (i + 1) r.month accounts' lv' ledger' ts' answers'
    unfolding book_after answer_at written
    stands_next r accounts' lv' ledger' ts' answers' s w =
        let done = answers_as here (records i) ready_next.0 r accounts' lv' ledger' ts' s in
        record {
          book = done.book ∙ ap (λ x. record_book x (records i)) stands.book ∙ ap (book_after b records) (sym (add-one i));
          totals_are = s.totals;
          answers_are = w ∙ (λ k. set (stands.answers_are k) i (word_for (done.answer k)))
              ∙ ap (λ x. set (answered b records i room) i (word_for (record_answer x (records i)))) stands.book ∙ ap (λ n. answered b records n room) (sym (add-one i));
        }

    pub stands_done : Does b history room i month accounts lv ledger answers
    stands_done = record {
      month_is = ap (λ x. x.month) stands.book;
      accounts_are = ap (λ x. x.accounts) stands.book;
      levels_are = ap (λ x. x.levels) stands.book;
      ledger_is = ap (λ x. x.ledger) stands.book;
      answers_are = stands.answers_are;
    }

-- ---- a whole run: the records that there is room for are answered in the front of the room
pub runs_as : (b : Book) (history room : List ℕ) (n : ℕ) → n ≡ turns_of history (length room) → (month : Month) (accounts : List Account) (lv : List ℕ) (ledger : List Allocation) (answers : List ℕ)
    → Does b history (take n room) (length (take n room)) month accounts lv ledger answers → Runs b history room month n accounts lv ledger (answers ++ drop n room)
runs_as b history room n e month accounts lv ledger answers d =
    let fits : n ≤ length room = omega arith in
    let d' = subst (λ (k : ℕ). Does b history (take n room) k month accounts lv ledger answers) (length-take-le n room fits) d in
    record {
      records_are = e;
      does = record { month_is = d'.month_is; accounts_are = d'.accounts_are; levels_are = d'.levels_are; ledger_is = d'.ledger_is; answers_are = ap (λ ys. ys ++ drop n room) d'.answers_are ∙ in_front _ n room fits };
    }

-- ---- on a book that is not usable: it stays, and answers 1 to each record
module _ (b : Book) (e : usable b ≡ false) (history room : List ℕ) where
  stays : (n : ℕ) → book_after b (records_of history) n ≡ b
  unfolding book_after record_book
  stays zero = refl
  stays (suc n) = ap (λ x. record_book x (records_of history n)) (stays n) ∙ rw e

  refused : (i : ℕ) → word_for (answer_at b (records_of history) i) ≡ 1
  unfolding answer_at record_answer
  refused i = ap (λ x. word_for (record_answer x (records_of history i))) (stays i) ∙ rw e

  pub runs_unusable : (n : ℕ) → n ≡ turns_of history (length room) → Runs b history room b.month n b.accounts b.levels b.ledger (replicate n 1 ++ drop n room)
  runs_unusable n e = record {
    records_are = e;
    does = record {
      month_is = ap (λ x. x.month) (sym (stays n));
      accounts_are = ap (λ x. x.accounts) (sym (stays n));
      levels_are = ap (λ x. x.levels) (sym (stays n));
      ledger_is = ap (λ x. x.ledger) (sym (stays n));
      answers_are = filled 1 n room (omega arith) ∙ sym (written_same _ (λ i. 1) refused n room);
    };
  }
