-- From what a run of the ledger leaves to what a call leaves. A readable list is handed on as the book that it is read as (`handed`); any other list is
-- handed on as a book of one day, which is never sound, so that it answers 1 and stays (`refused`); and a record of 24 bytes is a history of one record
-- (`stepped`), while one of another length is refused whatever the book (`short`). Assumes nothing.
use mathlib.Core.Path.{◌≡◌, refl, sym, ap, subst, ◌∙◌}
use mathlib.Core.Bool.{Bool, true, false, cond, and-false}
use mathlib.Core.List.{List, [], ◌∷◌}
use Prim.Native.Nat.{ℕ, ◌+◌, ◌/◌, min}
use native.Mathlib.Omega.{arith}
use lib.Dec.{T, eqb}
use lib.IntN.{ℤ}
use lib.ListN.{length, get_or}
use lib.Seq.{take_all}
use Rattle.record.specs.Record.{decode_of, or_refused}
use Rattle.book.specs.declared.Month.{Month}
use Rattle.book.specs.declared.Account.{Account}
use Rattle.book.specs.declared.Allocation.{Allocation}
use Rattle.book.specs.Book.{Book, fresh}
use Rattle.book.specs.Sound.{right_lengths, sound, is_fresh, is_no_month, open_sound, month_sound}
use Rattle.book.specs.Steps.{refusal}
use Rattle.book.specs.Run.{usable, decoded_answer, decoded_book, record_answer, record_book, records_of, book_after, answer_at}
use Rattle.sound.specs.Check.{book_from}
use Rattle.ledger.specs.Running as ledger
use Rattle.ledger.specs.Running.{written, answered}
use Rattle.ledger.proofs.Running.{filled, runs_unusable}
use Rattle.boundary.specs.Numbers.{numbers_of, book_in}
use Rattle.boundary.specs.Readable.{readable}
use Rattle.boundary.specs.Lent.{numbers_from, word, Steps, Does, Runs}
use Rattle.boundary.specs.Fitting.{BookFits}
use Rattle.boundary.specs.Inner.{one_day, Refuses}
use Rattle.boundary.proofs.Whole.{back}
use Rattle.boundary.proofs.Again.{holds}

-- a test does not both pass and fail
pub never : {t : Bool} {X : Type 0} → t ≡ true → t ≡ false → X
never h k = absurd (subst T (sym h ∙ k) tt)

-- ---- a history
module _ (ns : List ℤ) (lv history room : List ℕ) where
  pub handed : readable ns ≡ true → {m : Month} {n : ℕ} {accounts : List Account} {lv' : List ℕ} {entries : List Allocation} {room' : List ℕ}
      → ledger.Runs (book_in ns lv) history room m n accounts lv' entries room' → {ns' : List ℤ} → (ns' ≡ numbers_of m accounts entries) × BookFits m accounts entries
      → Runs ns lv history room n ns' lv' room'
  handed h {m} {n} {accounts} {lv'} {entries} r w = record {
    records_are = r.records_are;
    does = record {
      book_is = rw h (w.0 ∙ (λ i. numbers_of (r.does.month_is i) (r.does.accounts_are i) (r.does.ledger_is i)));
      again = λ _.
          let k = holds m accounts entries w.1 lv' w.0 in
          record { reads = k.reads; is = k.is ∙ (λ i. book_from (r.does.month_is i) (r.does.accounts_are i) (r.does.levels_are i) (r.does.ledger_is i)) };
      levels_are = rw h r.does.levels_are;
      answers_are = rw h r.does.answers_are;
    };
  }

  pub unread : readable ns ≡ false → {n : ℕ} {lv' room' : List ℕ} → Refuses lv history room n lv' room' → Runs ns lv history room n ns lv' room'
  unread h r = record {
    records_are = r.records_are;
    does = record { book_is = rw h; levels_are = rw h r.levels_are; again = λ t. never t h; answers_are = rw h r.answers_are };
  }

-- a book of one day
abbrev day_book : List ℕ → Book
day_book lv = book_from one_day fresh.accounts lv fresh.ledger

unsound : (lv : List ℕ) → usable (day_book lv) ≡ false
unfolding sound is_fresh is_no_month open_sound month_sound
unsound lv = and-false (right_lengths (day_book lv))

pub refused : (lv history room : List ℕ) {m : Month} {n : ℕ} {accounts : List Account} {lv' : List ℕ} {entries : List Allocation} {room' : List ℕ}
    → ledger.Runs (day_book lv) history room m n accounts lv' entries room' → Refuses lv history room n lv' room'
refused lv history room {n = n} r =
    let stays = runs_unusable (day_book lv) (unsound lv) history room n r.records_are in
    record {
      records_are = r.records_are;
      levels_are = r.does.levels_are ∙ sym stays.does.levels_are;
      answers_are = r.does.answers_are ∙ sym stays.does.answers_are ∙ filled 1 n room (omega (arith, r.records_are));
    }

-- ---- one record
module _ (ns : List ℤ) (lv bytes : List ℕ) where
  -- of another length
  module _ (e : eqb (length bytes) 24 ≡ false) where
    none : (b : Book) → (record_answer b bytes ≡ refusal 1) × (record_book b bytes ≡ b)
    unfolding record_answer record_book decoded_answer decoded_book decode_of or_refused
    none b = by (usable b) refl
      where
        by : (u : Bool) → usable b ≡ u → (record_answer b bytes ≡ refusal 1) × (record_book b bytes ≡ b)
        by true u = (rw (u, e), rw (u, e))
        by false u = (rw u, rw u)

    pub short : Steps ns lv bytes 1 ns lv
    short = by (readable ns) refl
      where
        by : (t : Bool) → readable ns ≡ t → Steps ns lv bytes 1 ns lv
        by true h = record {
          answer_is = rw h (ap word (sym (none (book_in ns lv)).0));
          book_is = rw h (sym (back ns h) ∙ ap numbers_from (sym (none (book_in ns lv)).1));
          levels_are = rw h (ap (λ b. b.levels) (sym (none (book_in ns lv)).1));
          again = λ _. record { reads = h; is = sym (none (book_in ns lv)).1 };
        }
        by false h = record { answer_is = rw h; book_is = rw h; levels_are = rw h; again = λ t. never t h }

  -- of 24 bytes
  module _ (e : length bytes ≡ 24) where
    only : records_of bytes 0 ≡ bytes
    only = take_all 24 bytes (omega arith)

    one_answer : (t : Bool) {room' : List ℕ} → room' ≡ cond t (answered (book_in ns lv) (records_of bytes) 1 (0 ∷ [])) (written (λ _. 1) 1 (0 ∷ []))
        → get_or room' 0 0 ≡ word (cond t (record_answer (book_in ns lv) bytes) (refusal 1))
    unfolding written answer_at book_after
    one_answer true a = ap (λ l. get_or l 0 0) a ∙ ap (λ b. word (record_answer (book_in ns lv) b)) only
    one_answer false a = ap (λ l. get_or l 0 0) a

    pub stepped : {n : ℕ} {ns' : List ℤ} {lv' room' : List ℕ} → Runs ns lv bytes (0 ∷ []) n ns' lv' room' → Steps ns lv bytes (get_or room' 0 0) ns' lv'
    unfolding book_after
    stepped {n} {ns'} {lv'} {room'} r =
        let one : n ≡ 1 = r.records_are ∙ ap (λ k. min ((k + 23) / 24) 1) e in
        let d : Does ns lv bytes (0 ∷ []) 1 ns' lv' room' = rw one at r.does in
        record {
          answer_is = one_answer (readable ns) d.answers_are;
          book_is = d.book_is ∙ ap (λ b. cond (readable ns) (numbers_from (record_book (book_in ns lv) b)) ns) only;
          levels_are = d.levels_are ∙ ap (λ b. cond (readable ns) (record_book (book_in ns lv) b).levels lv) only;
          again = λ h. let k = d.again h in record { reads = k.reads; is = k.is ∙ ap (record_book (book_in ns lv)) only };
        }
