-- Nothing has to be kept between calls: records that are lent one by one, with what the call before left, are answered as in one run (`answered_as`), and
-- leave what a run of them leaves, number by number (`one_by_one`). Each call leaves numbers that are read as the book after its record. Assumes nothing.
use mathlib.Core.Path.{◌≡◌, refl, sym, ap, ◌∙◌}
use mathlib.Core.Bool.{Bool, true, false}
use mathlib.Core.List.{List}
use Prim.Native.Nat.{ℕ, zero, suc}
use lib.IntN.{ℤ}
use Rattle.book.specs.Run.{record_book, record_answer, records_of, book_after, answer_at}
use Rattle.boundary.specs.Numbers.{book_in}
use Rattle.boundary.specs.Readable.{readable}
use Rattle.boundary.specs.Lent.{numbers_from, word, Holds, Steps, Does}
use Rattle.boundary.proofs.Whole.{back}

-- n calls, one for each record, each with the numbers and levels that the one before it left
pub data Calls (records : ℕ → List ℕ) (ns : List ℤ) (lv : List ℕ) : ℕ → List ℤ → List ℕ → Type 0 where
  none : Calls records ns lv zero ns lv
  more : {n r : ℕ} {ns' ns'' : List ℤ} {lv' lv'' : List ℕ} → Calls records ns lv n ns' lv' → Steps ns' lv' (records n) r ns'' lv'' → Calls records ns lv (suc n) ns'' lv''

module _ {records : ℕ → List ℕ} {ns : List ℤ} {lv : List ℕ} where
  -- from numbers that are a book's
  module _ (h : readable ns ≡ true) where
    pub held : {n : ℕ} {ns' : List ℤ} {lv' : List ℕ} → Calls records ns lv n ns' lv' → Holds ns' lv' (book_after (book_in ns lv) records n)
    unfolding book_after
    held none = record { reads = h; is = refl }
    held (more {n} c s) =
        let before = held c in
        let after = s.again before.reads in
        record { reads = after.reads; is = after.is ∙ ap (λ b. record_book b (records n)) before.is }

    -- the answer to each is the one that the run gives
    pub answered_as : {n r : ℕ} {ns' ns'' : List ℤ} {lv' lv'' : List ℕ} → Calls records ns lv n ns' lv' → Steps ns' lv' (records n) r ns'' lv''
        → r ≡ word (answer_at (book_in ns lv) records n)
    unfolding answer_at
    answered_as {n} c s = let before = held c in (rw before.reads at s.answer_is) ∙ ap (λ b. word (record_answer b (records n))) before.is

  -- from numbers that are none
  unheld : readable ns ≡ false → {n : ℕ} {ns' : List ℤ} {lv' : List ℕ} → Calls records ns lv n ns' lv' → (ns' ≡ ns) × (lv' ≡ lv)
  unheld h none = (refl, refl)
  unheld h (more c s) =
      let before = unheld h c in
      let off = ap readable before.0 ∙ h in
      ((rw off at s.book_is) ∙ before.0, (rw off at s.levels_are) ∙ before.1)

-- and what is left is what the run leaves
pub one_by_one : {ns ns' ns'' : List ℤ} {lv lv' lv'' history room room' : List ℕ} {n : ℕ} → Calls (records_of history) ns lv n ns' lv'
    → Does ns lv history room n ns'' lv'' room' → (ns' ≡ ns'') × (lv' ≡ lv'')
one_by_one {ns} {ns'} {ns''} {lv} {lv'} {lv''} c d = by (readable ns) refl
  where
    by : (t : Bool) → readable ns ≡ t → (ns' ≡ ns'') × (lv' ≡ lv'')
    by true h =
        let one = held h c in
        let all = d.again h in
        let same = one.is ∙ sym all.is in
        (sym (back ns' one.reads) ∙ ap numbers_from same ∙ back ns'' all.reads, ap (λ b. b.levels) same)
    by false h =
        let one = unheld h c in
        (one.0 ∙ sym (rw h at d.book_is), one.1 ∙ sym (rw h at d.levels_are))
