-- A refusal writes nothing, number by number. A record whose answer is not 0 leaves the numbers and the levels that were lent exactly as they were (`kept`),
-- since a refused book is the same book and a readable list is had back from it; so does a history whose every answer is a refusal (`kept_run`); and a
-- settlement that is refused leaves its room (`kept_room`). Assumes nothing.
use mathlib.Core.Path.{◌≡◌, refl, ap, ◌∙◌}
use mathlib.Core.Logic.{◌≢◌, ⊎_elim}
use mathlib.Core.Bool.{Bool, true, false}
use mathlib.Core.List.{List}
use Prim.Native.Nat.{ℕ, zero, suc, ◌≤◌, ◌<◌}
use native.Mathlib.Decide.{ℕ_discrete}
use native.Mathlib.Omega.{arith}
use lib.IntN.{ℤ}
use lib.ListN.{length, length-set, get_or}
use lib.Seq.{get_or-set_same, get_or-set_other}
use borrow.Author.Tests.{ne_eqb}
use Rattle.book.specs.Book.{Book}
use Rattle.book.specs.Run.{record_answer, record_book, records_of, book_after, answer_at}
use Rattle.book.specs.Frame.{Done, Refused}
use Rattle.book.proofs.Frame.{recorded}
use Rattle.ledger.specs.Running.{reason_in, written}
use Rattle.boundary.specs.Numbers.{book_in}
use Rattle.boundary.specs.Readable.{readable}
use Rattle.boundary.specs.Lent.{numbers_from, word, lent_reason, Steps, Runs, Settles}
use Rattle.boundary.proofs.Whole.{back}

-- ---- one record
-- a record whose answer is a refusal leaves the book
stays : (b : Book) (bytes : List ℕ) → reason_in (word (record_answer b bytes)) ≢ 0 → record_book b bytes ≡ b
stays b bytes n = ⊎_elim (λ (d : Done b bytes). absurd (n (rw d.answer (omega arith)))) (λ (r : Refused b (record_book b bytes) (record_answer b bytes)). r.same) (recorded b bytes)

pub kept : {ns ns' : List ℤ} {lv lv' bytes : List ℕ} {r : ℕ} → Steps ns lv bytes r ns' lv' → reason_in r ≢ 0 → (ns' ≡ ns) × (lv' ≡ lv)
kept {ns} {ns'} {lv} {lv'} {bytes} s n = by (readable ns) refl
  where
    by : (t : Bool) → readable ns ≡ t → (ns' ≡ ns) × (lv' ≡ lv)
    by true h =
        let same = stays (book_in ns lv) bytes (λ z. n (ap reason_in (rw h at s.answer_is) ∙ z)) in
        ((rw h at s.book_is) ∙ ap numbers_from same ∙ back ns h, (rw h at s.levels_are) ∙ ap (λ b. b.levels) same)
    by false h = (rw h at s.book_is, rw h at s.levels_are)

-- ---- a history
written_long : (words : ℕ → ℕ) (n : ℕ) (room : List ℕ) → length (written words n room) ≡ length room
unfolding written
written_long words zero room = refl
written_long words (suc n) room = length-set (written words n room) n (words n) ∙ written_long words n room

-- an answer that is written is read again
written_at : (words : ℕ → ℕ) (n : ℕ) (room : List ℕ) → n ≤ length room → (i : ℕ) → i < n → get_or (written words n room) i 0 ≡ words i
unfolding written
written_at words zero room o i l = absurd (omega arith)
written_at words (suc n) room o i l = by (written_at words n room (omega arith) i) (ℕ_discrete i n)
  where
    by : (i < n → get_or (written words n room) i 0 ≡ words i) → Dec (i ≡ n) → get_or (written words (suc n) room) i 0 ≡ words i
    by before (yes e) = rw e (get_or-set_same (written words n room) n (words n) 0 (omega (arith, written_long words n room)))
    by before (no e) = get_or-set_other (written words n room) n i (words n) 0 e ∙ before (omega arith)

all_stay : (b : Book) (records : ℕ → List ℕ) (n : ℕ) → ((i : ℕ) → i < n → reason_in (word (answer_at b records i)) ≢ 0) → book_after b records n ≡ b
unfolding book_after answer_at
all_stay b records zero h = refl
all_stay b records (suc n) h = stays (book_after b records n) (records n) (h n (omega arith)) ∙ all_stay b records n (λ i o. h i (omega arith))

pub kept_run : {ns ns' : List ℤ} {lv lv' history room room' : List ℕ} {r : ℕ} → Runs ns lv history room r ns' lv' room'
    → ((i : ℕ) → i < r → reason_in (get_or room' i 0) ≢ 0) → (ns' ≡ ns) × (lv' ≡ lv)
kept_run {ns} {ns'} {lv} {lv'} {history} {room} {room'} {r} s n = by (readable ns) refl
  where
    few : r ≤ length room
    few = omega (arith, s.records_are)

    by : (t : Bool) → readable ns ≡ t → (ns' ≡ ns) × (lv' ≡ lv)
    by true h =
        let b = book_in ns lv in
        let words : ℕ → ℕ = λ i. word (answer_at b (records_of history) i) in
        let answers = rw h at s.does.answers_are in
        let same = all_stay b (records_of history) r (λ i o z. n i o (ap (λ l. reason_in (get_or l i 0)) answers ∙ ap reason_in (written_at words r room few i o) ∙ z)) in
        ((rw h at s.does.book_is) ∙ ap numbers_from same ∙ back ns h, (rw h at s.does.levels_are) ∙ ap (λ x. x.levels) same)
    by false h = (rw h at s.does.book_is, rw h at s.does.levels_are)

-- ---- settlement
pub kept_room : {ns : List ℤ} {lv room room' : List ℕ} {r : ℕ} → Settles ns lv room r room' → lent_reason ns lv room ≢ 0 → room' ≡ room
kept_room {ns} {lv} {room} s n = rw (ne_eqb (lent_reason ns lv room) 0 n) at s.figures_are
