-- What a record makes of one allocation's quantity. It puts one, and that is the quantity that its step says, or the share in the cut (`put`); or it
-- leaves the quantity as it was (`unput`), since of the table's rows only those of the three kinds that put one name a quantity. Assumes nothing.
use mathlib.Core.Path.{◌≡◌, refl, sym, ap, ◌∙◌}
use mathlib.Core.Logic.{⊎_elim}
use mathlib.Core.Bool.{Bool, true, false, ◌&&◌, ◌||◌, and-eq-true_iff, true≢false, false≢true}
use mathlib.Core.List.{List}
use Prim.Native.Nat.{ℕ, ◌+◌, ◌-◌, ◌≤◌, ◌<◌}
use native.Mathlib.Omega.{arith}
use lib.Dec.{eqb}
use lib.ListN.{length, get_or, set}
use lib.Seq.{get_or-set_same}
use borrow.Author.Tests.{leb-false, eqb-true, ne_eqb, not-false}
use Rattle.record.specs.declared.Step.{Step}
use Rattle.record.specs.declared.Step.TheVariants.{Open, Window, Register, Requirement, Margin, Create, Terminate, Submit, Withdraw, Accept, AskReversal, AgreeReversal, GeneratorAmends, OperatorAmends}
use Rattle.book.specs.declared.Allocation.{Allocation}
use Rattle.book.specs.declared.Status.TheVariants as S
use Rattle.book.specs.Book.{Book, no_allocation, allocation, ACCEPTED, REVERSAL_ASKED, participants, level_places, most_given}
use Rattle.book.specs.Words.{tradeable}
use Rattle.book.specs.Sound.{right_lengths, sound}
use Rattle.book.specs.Reasons.{reason_of, reason9, reason11, has, quantity_at}
use Rattle.book.specs.Cut.{with_quantity}
use Rattle.book.specs.Steps.{book_of, done, written}
use Rattle.book.specs.Run.{usable, record_answer, record_book}
use Rattle.book.specs.Frame.{in_ledger, quantity, Refused, Done}
use Rattle.book.specs.Origin.{puts, quantity_put, cut_share, decoded_puts, record_puts}
use Rattle.book.proofs.NoReason.{NoReason, no_reason}
use Rattle.book.proofs.Recut.{in_table, cut_quantity}
use Rattle.book.proofs.Frame.{frame, recorded, by_record, written_when_done}
use Rattle.book.proofs.Touched.{Touched, submitted, amended, cut_down, moved, touched}

-- ---- a done step and the quantity of allocation n
-- a step that does not put it leaves it
unput_step : (b : Book) (s : Step) (n : ℕ) → 1 ≤ n → reason_of b s ≡ 0 → puts b s n ≡ false → quantity_at (book_of b s) n ≡ quantity_at b n
unput_step b s n h r p =
    ⊎_elim (λ a. shut (touched b s (n - 1) quantity (no_reason b s r) a)) (λ e. ap (λ q. q.0) e) ((frame b s r).each (in_ledger (n - 1) quantity))
  where
    clash : puts b s (n - 1 + 1) ≡ true → ⊥
    clash e = true≢false (sym e ∙ ap (puts b s) (omega arith) ∙ p)

    shut : Touched b s (n - 1) quantity → quantity_at (book_of b s) n ≡ quantity_at b n
    shut (submitted e _ _) = absurd (clash e)
    shut (amended e _) = absurd (clash e)
    shut (cut_down g e _) = absurd (clash e)
    shut (moved e _) = cc

-- a usable book has a place in its ledger for each of the 256 numbers
ledger_length : (b : Book) → usable b ≡ true → length b.ledger ≡ most_given
unfolding right_lengths
ledger_length b u =
    eqb-true (length b.ledger) most_given
    (right (eqb (length b.levels) level_places) _
    (right (eqb (length b.accounts) participants) _
    (right (eqb (length b.month.windows) 4) _ ((and-eq-true_iff (right_lengths b) (sound b)).0 u).0)))
  where
    right : (x y : Bool) → x && y ≡ true → y ≡ true
    right x y e = ((and-eq-true_iff x y).0 e).1

-- what is written at a place of the ledger stands there
set_quantity : (l : List Allocation) (i : ℕ) (a : Allocation) → i < length l → (get_or (set l i a) i no_allocation).quantity.0 ≡ a.quantity.0
set_quantity l i a h = ap (λ x. x.quantity.0) (get_or-set_same l i a no_allocation h)

-- a step that puts it leaves there what it says
put_step : (b : Book) (s : Step) (n : ℕ) → usable b ≡ true → NoReason b s → puts b s n ≡ true → quantity_at (done b s) n ≡ quantity_put b s n
unfolding puts quantity_put cut_share done written reason9 reason11
put_step b (Open d p t) n u o e = absurd (false≢true e)
put_step b (Window s w t) n u o e = absurd (false≢true e)
put_step b (Register a c t) n u o e = absurd (false≢true e)
put_step b (Requirement a q t) n u o e = absurd (false≢true e)
put_step b (Margin a m t) n u o e = absurd (false≢true e)
put_step b (Create a k d q t) n u o e = absurd (false≢true e)
put_step b (Terminate a k d q t) n u o e = absurd (false≢true e)
put_step b (Submit a c q t) n u o e =
    let next_one : n ≡ b.month.given + 1 = eqb-true n (b.month.given + 1) e in
    let left = leb-false most_given b.month.given o.no11 in
    let room : b.month.given + 1 - 1 < length b.ledger = omega (arith, ledger_length b u) in
    rw next_one (set_quantity b.ledger (b.month.given + 1 - 1) (record { generator = a; customer = c; quantity = q; status = S.Submitted }) room)
put_step b (Withdraw a m t) n u o e = absurd (false≢true e)
put_step b (Accept a m t) n u o e = absurd (false≢true e)
put_step b (AskReversal a m t) n u o e = absurd (false≢true e)
put_step b (AgreeReversal a m t) n u o e = absurd (false≢true e)
put_step b (GeneratorAmends a m q t) n u o e =
    let named-one : n ≡ m = eqb-true n m e in
    let here = in_table b.ledger (m - 1) (λ l. has ACCEPTED l || has REVERSAL_ASKED l) refl (not-false (has ACCEPTED (allocation b m) || has REVERSAL_ASKED (allocation b m)) o.no9) in
    rw named-one (set_quantity b.ledger (m - 1) (with_quantity (allocation b m) q.0) here)
put_step b (OperatorAmends a t) n u o e = cut_quantity a (tradeable b a) b.ledger (n - 1) e

-- ---- a record
pub done_puts : (b : Book) (bytes : List ℕ) (n : ℕ) (d : Done b bytes) → record_puts b bytes n ≡ puts b d.step n
unfolding record_puts decoded_puts
done_puts b bytes n d = rw (d.answer, d.decoded)

refused_puts : (b b' : Book) (bytes : List ℕ) (n : ℕ) → Refused b b' (record_answer b bytes) → record_puts b bytes n ≡ false
unfolding record_puts
refused_puts b b' bytes n r = rw (ne_eqb (record_answer b bytes).reason 0 r.reason)

-- a record that puts the quantity is a done step's, and the quantity is what that step put
pub put : (b : Book) (bytes : List ℕ) (n : ℕ) → record_puts b bytes n ≡ true
    → (d : Done b bytes) × (puts b d.step n ≡ true) × (quantity_at (record_book b bytes) n ≡ quantity_put b d.step n)
put b bytes n e =
    ⊎_elim
    (λ (d : Done b bytes). let p = sym (done_puts b bytes n d) ∙ e in
    (d, p, rw (d.book, written_when_done b d.step d.reason) (put_step b d.step n d.usable_book (no_reason b d.step d.reason) p)))
    (λ (r : Refused b (record_book b bytes) (record_answer b bytes)). absurd (true≢false (sym e ∙ refused_puts b (record_book b bytes) bytes n r)))
    (recorded b bytes)

-- one that does not leaves the quantity as it was
pub unput : (b : Book) (bytes : List ℕ) (n : ℕ) → 1 ≤ n → record_puts b bytes n ≡ false → quantity_at (record_book b bytes) n ≡ quantity_at b n
unput b bytes n h e =
    by_record (λ b'. quantity_at b' n ≡ quantity_at b n) b bytes (λ d. unput_step b d.step n h d.reason (sym (done_puts b bytes n d) ∙ e)) refl
