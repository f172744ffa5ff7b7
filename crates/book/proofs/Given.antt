-- The numbers given along a run. Only SUBMIT gives one, the next, so they never decrease (`given_grows`), and a record that gives one puts its
-- quantity (`put_or_given`). An allocation record beyond them is empty, since no row of the frame names one that a done step could alter (`unused`).
-- Assumes nothing.
use mathlib.Core.Path.{◌≡◌, refl, sym, ap, ◌∙◌}
use mathlib.Core.Logic.{⊎_elim}
use mathlib.Core.Bool.{Bool, true, false, cond, and-false, true≢false}
use mathlib.Core.List.{List}
use Prim.Native.Nat.{ℕ, zero, suc, ◌+◌, ◌-◌, ◌≤◌, ◌<◌}
use native.Mathlib.Nat.{eq-or-lt_of_le}
use native.Mathlib.Omega.{arith}
use lib.Dec.{eqb}
use lib.ListN.{get_or, replicate}
use borrow.Author.Tests.{eqb-false}
use Rattle.record.specs.declared.Step.{Step}
use Rattle.record.specs.declared.Step.TheVariants.{Open, Window, Register, Requirement, Margin, Create, Terminate, Submit, Withdraw, Accept, AskReversal, AgreeReversal, GeneratorAmends, OperatorAmends}
use Rattle.book.specs.Book.{Book, fresh, allocation, no_allocation, most_given}
use Rattle.book.specs.Kinds.{is, SUBMIT}
use Rattle.book.specs.Reasons.{reason_of}
use Rattle.book.specs.Cut.{is_cut}
use Rattle.book.specs.Steps.{book_of}
use Rattle.book.specs.Run.{record_book, book_after}
use Rattle.book.specs.Frame.{in_ledger, AllocationPart, generator, customer, quantity, status, SameAllocation}
use Rattle.book.specs.Origin.{puts, record_puts}
use Rattle.book.proofs.NoReason.{no_reason}
use Rattle.book.proofs.Frame.{frame, by_record}
use Rattle.book.proofs.Touched.{Touched, submitted, amended, cut_down, moved, touched}
use Rattle.book.proofs.Put.{done_puts}

-- ---- a step, and then a record
-- it gives none or one more
grows_step : (b : Book) (s : Step) → reason_of b s ≡ 0 → b.month.given ≤ (book_of b s).month.given
grows_step b s r = more (is SUBMIT s) (frame b s r).given
  where
    more : (c : Bool) → (book_of b s).month.given ≡ cond c (b.month.given + 1) b.month.given → b.month.given ≤ (book_of b s).month.given
    more true e = omega arith
    more false e = omega arith

-- the number that it gives is one whose quantity it puts
put_or_had : (b : Book) (s : Step) (n : ℕ) → puts b s n ≡ false → n ≤ cond (is SUBMIT s) (b.month.given + 1) b.month.given → n ≤ b.month.given
unfolding puts
put_or_had b (Open d q t) n p h = h
put_or_had b (Window k e t) n p h = h
put_or_had b (Register a k t) n p h = h
put_or_had b (Requirement a q t) n p h = h
put_or_had b (Margin a f t) n p h = h
put_or_had b (Create a k d q t) n p h = h
put_or_had b (Terminate a k d q t) n p h = h
put_or_had b (Submit a c q t) n p h = let other = eqb-false n (b.month.given + 1) p in omega arith
put_or_had b (Withdraw a m t) n p h = h
put_or_had b (Accept a m t) n p h = h
put_or_had b (AskReversal a m t) n p h = h
put_or_had b (AgreeReversal a m t) n p h = h
put_or_had b (GeneratorAmends a m q t) n p h = h
put_or_had b (OperatorAmends a t) n p h = h

given_step : (b : Book) (s : Step) (n : ℕ) → reason_of b s ≡ 0 → puts b s n ≡ false → n ≤ (book_of b s).month.given → n ≤ b.month.given
given_step b s n r p h = put_or_had b s n p (rw (frame b s r).given at h)

grows : (b : Book) (bytes : List ℕ) → b.month.given ≤ (record_book b bytes).month.given
grows b bytes = by_record (λ b'. b.month.given ≤ b'.month.given) b bytes (λ d. grows_step b d.step d.reason) (omega arith)

pub put_or_given : (b : Book) (bytes : List ℕ) (n : ℕ) → record_puts b bytes n ≡ false → n ≤ (record_book b bytes).month.given → n ≤ b.month.given
put_or_given b bytes n p =
    by_record (λ b'. n ≤ b'.month.given → n ≤ b.month.given) b bytes (λ d. given_step b d.step n d.reason (sym (done_puts b bytes n d) ∙ p)) (λ h. h)

-- ---- each record of the ledger beyond the numbers given is the empty one
abbrev Unused : Book → Type 0
Unused b = (i : ℕ) → b.month.given ≤ i → get_or b.ledger i no_allocation ≡ no_allocation

unused_step : (b : Book) (s : Step) → reason_of b s ≡ 0 → Unused b → Unused (book_of b s)
unused_step b s r u i h = (λ k. record { generator = stays generator k; customer = stays customer k; quantity = stays quantity k; status = stays status k }) ∙ empty
  where
    beyond : b.month.given ≤ i
    beyond = omega (arith, grows_step b s r)

    empty : get_or b.ledger i no_allocation ≡ no_allocation
    empty = u i beyond

    untouched : (f : AllocationPart) → Touched b s i f → ⊥
    untouched f (submitted _ e l) = omega (arith, rw e at (frame b s r).given)
    untouched f (amended _ l) = omega (arith, beyond)
    untouched f (cut_down g _ c) = true≢false (sym c ∙ ap (is_cut g) empty ∙ and-false (eqb 0 g))
    untouched f (moved _ l) = omega (arith, beyond)

    stays : (f : AllocationPart) → SameAllocation f (get_or b.ledger i no_allocation) (get_or (book_of b s).ledger i no_allocation)
    stays f = ⊎_elim (λ a. absurd (untouched f (touched b s i f (no_reason b s r) a))) (λ e. e) ((frame b s r).each (in_ledger i f))

unused_record : (b : Book) (bytes : List ℕ) → Unused b → Unused (record_book b bytes)
unused_record b bytes u = by_record Unused b bytes (λ d. unused_step b d.step d.reason u) u

-- ---- a run
-- numbers given never decrease: a number given stays given
pub given_grows : (b : Book) (records : ℕ → List ℕ) (i j : ℕ) → i ≤ j → (book_after b records i).month.given ≤ (book_after b records j).month.given
unfolding book_after
given_grows b records i zero h = let e : i ≡ 0 = omega arith in rw e (omega arith)
given_grows b records i (suc j) h =
    ⊎_elim
    (λ (e : i ≡ suc j). rw e (omega arith))
    (λ (l : i < suc j). omega (arith, given_grows b records i j (omega arith), grows (book_after b records j) (records j)))
    (eq-or-lt_of_le h)

all_empty_lem : (n i : ℕ) → get_or (replicate n no_allocation) i no_allocation ≡ no_allocation
all_empty_lem zero i = refl
all_empty_lem (suc n) zero = refl
all_empty_lem (suc n) (suc i) = all_empty_lem n i

unused_from_fresh : (records : ℕ → List ℕ) (m : ℕ) → Unused (book_after fresh records m)
unfolding book_after fresh
unused_from_fresh records zero = λ i _. all_empty_lem most_given i
unused_from_fresh records (suc m) = unused_record (book_after fresh records m) (records m) (unused_from_fresh records m)

-- a number not given has an empty record: quantity 0, and status EMPTY
pub unused : (records : ℕ → List ℕ) (m n : ℕ) → (book_after fresh records m).month.given < n → allocation (book_after fresh records m) n ≡ no_allocation
unused records m n h = unused_from_fresh records m (n - 1) (omega arith)
