-- What a done step alters in the ledger, from the rows of the table: of the record that it gives all, of one whose number was given the status or
-- the quantity, and of an accepted one that it cuts the quantity (`touched`). Assumes nothing.
use mathlib.Core.Path.{◌≡◌, refl}
use mathlib.Core.Logic.{inl, inr}
use mathlib.Core.Bool.{Bool, true, false, ◌||◌, true≢false}
use Prim.Native.Nat.{ℕ, ◌+◌, ◌-◌, ◌≤◌, ◌<◌}
use native.Mathlib.Omega.{arith}
use lib.Dec.{eqb, ltb}
use lib.ListN.{get_or}
use borrow.Author.Tests.{ltb-false, eqb-false, eq-eqb}
use Rattle.record.specs.declared.Step.{Step}
use Rattle.record.specs.declared.Step.TheVariants.{Open, Window, Register, Requirement, Margin, Create, Terminate, Submit, Withdraw, Accept, AskReversal, AgreeReversal, GeneratorAmends, OperatorAmends}
use Rattle.book.specs.Book.{Book, no_allocation}
use Rattle.book.specs.Kinds.{is, SUBMIT}
use Rattle.book.specs.Reasons.{reason5, not_registered, not_given}
use Rattle.book.specs.Cut.{is_cut}
use Rattle.book.specs.Frame.{in_ledger, AllocationPart, status, Alters}
use Rattle.book.specs.Origin.{puts}
use Rattle.book.proofs.NoReason.{NoReason}

-- a part f of the record at place i, which is allocation number i + 1
pub data Touched (b : Book) (s : Step) (i : ℕ) (f : AllocationPart) : Type 0 where
  -- SUBMIT: the record of the number that it gives
  submitted : puts b s (i + 1) ≡ true → is SUBMIT s ≡ true → i ≡ b.month.given → Touched b s i f
  -- GENERATOR AMENDS: the one that it names
  amended : puts b s (i + 1) ≡ true → i < b.month.given → Touched b s i f
  -- OPERATOR AMENDS: one that it cuts
  cut_down : (g : ℕ) → puts b s (i + 1) ≡ true → is_cut g (get_or b.ledger i no_allocation) ≡ true → Touched b s i f
  -- the others that name one, its status
  moved : f ≡ status → i < b.month.given → Touched b s i f

-- the number that a step names was given (reason 5)
neither : (x y : Bool) → x || y ≡ false → (x ≡ false) × (y ≡ false)
neither true y e = absurd (true≢false e)
neither false y e = (refl, e)

named : (b : Book) (a n : ℕ) → not_registered b a || not_given b n ≡ false → (1 ≤ n) × (n ≤ b.month.given)
named b a n e =
    let given = neither (eqb n 0) (ltb b.month.given n) (neither (not_registered b a) (not_given b n) e).1 in
    let some = eqb-false n 0 given.0 in
    (omega arith, ltb-false b.month.given n given.1)

moving : (b : Book) (s : Step) (i : ℕ) (f : AllocationPart) (a n : ℕ) → not_registered b a || not_given b n ≡ false
    → in_ledger i f ≡ in_ledger (n - 1) status → Touched b s i f
moving b s i f a n r e =
    let it : i ≡ n - 1 = cc in
    let n-given = named b a n r in
    moved (cc) (omega arith)

-- a row that names no place of the ledger
never : {X : Type 0} → ◌≡◌ {A = ℕ} 0 1 → X
never e = absurd (omega arith)

pub touched : (b : Book) (s : Step) (i : ℕ) (f : AllocationPart) → NoReason b s → Alters b s (in_ledger i f) → Touched b s i f
unfolding puts reason5
touched b (Open d p t) i f o (inl e) = never (cc)
touched b (Open d p t) i f o (inr e) = never (cc)
touched b (Window s e t) i f o h = never (cc)
touched b (Register a r t) i f o e = never (cc)
touched b (Requirement a q t) i f o e = never (cc)
touched b (Margin a m t) i f o (inl e) = never (cc)
touched b (Margin a m t) i f o (inr e) = never (cc)
touched b (Create a k d q t) i f o e = never (cc)
touched b (Terminate a k d q t) i f o e = never (cc)
touched b (Submit a c q t) i f o e =
    let it : i ≡ b.month.given = cc in
    submitted (eq-eqb (i + 1) (b.month.given + 1) (omega arith)) refl it
touched b (Withdraw a n t) i f o e = moving b (Withdraw a n t) i f a n o.no5 e
touched b (Accept a n t) i f o e = moving b (Accept a n t) i f a n o.no5 e
touched b (AskReversal a n t) i f o e = moving b (AskReversal a n t) i f a n o.no5 e
touched b (AgreeReversal a n t) i f o e = moving b (AgreeReversal a n t) i f a n o.no5 e
touched b (GeneratorAmends a n q t) i f o e =
    let it : i ≡ n - 1 = cc in
    let n-given = named b a n o.no5 in
    amended (eq-eqb (i + 1) n (omega arith)) (omega arith)
touched b (OperatorAmends a t) i f o (j, c, e) =
    let it : j ≡ i = cc in
    let here = rw it at c in
    let from_one : i + 1 - 1 ≡ i = omega arith in
    cut_down a (rw from_one here) here
