-- Laws of the largest number and of the first index that has it, each by induction on the bound.
use mathlib.Core.Path.{◌≡◌, ap, sym, subst}
use mathlib.Core.Logic.{⊎_elim}
use Prim.Native.Nat.{ℕ, zero, suc, ◌+◌, ◌≤◌, ◌<◌}
use native.Mathlib.Nat.{eq-or-lt_of_le, le_of_suc-le-suc, max-eq_left, max-eq_right, le_of_lt}
use native.Mathlib.Numerals.{add-one}
use native.Mathlib.Decide.{dec_lt}
use native.Mathlib.Omega.{arith}
use borrow.Author.Tests.{lt-ltb, le-ltb}
use Rattle.share.specs.Totals.{largest, first_largest}

-- Every number is at most the largest.
pub le_largest : (n : ℕ) (f : ℕ → ℕ) (i : ℕ) → i < n → f i ≤ largest n f
unfolding largest
le_largest zero f i l = omega arith
le_largest (suc n) f i l =
    ⊎_elim
    (λ (e : i ≡ n). omega (arith, ap f e))
    (λ (o : i < n). omega (arith, le_largest n f i o))
    (eq-or-lt_of_le (le_of_suc-le-suc l))

-- A bound on every number bounds the largest.
pub largest_le : (n p : ℕ) (f : ℕ → ℕ) → ((i : ℕ) → i < n → f i ≤ p) → largest n f ≤ p
unfolding largest
largest_le zero p f h = omega arith
largest_le (suc n) p f h = omega (arith, largest_le n p f (λ i l. h i (omega arith)), h n (omega arith))

-- A number that is no larger changes neither.
pub largest_keep : (n : ℕ) (f : ℕ → ℕ) → f n ≤ largest n f
    → (largest (n + 1) f ≡ largest n f) × (first_largest (n + 1) f ≡ first_largest n f)
unfolding largest first_largest
largest_keep n f h = (rw add-one (max-eq_left h), rw (add-one, le-ltb (largest n f) (f n) h))

-- A larger one is the largest, and the first.
pub largest_new : (n : ℕ) (f : ℕ → ℕ) → largest n f < f n → (largest (n + 1) f ≡ f n) × (first_largest (n + 1) f ≡ n)
unfolding largest first_largest
largest_new n f h = (rw add-one (max-eq_right (le_of_lt h)), rw (add-one, lt-ltb (largest n f) (f n) h))

-- k is the lowest index below n with the largest number.
pub record First (n : ℕ) (f : ℕ → ℕ) (k : ℕ) : Type 0 where
  pub below : k < n
  pub has : f k ≡ largest n f
  pub before : (j : ℕ) → j < k → f j < largest n f

-- The first index with the largest number is that, unless all are 0.
pub first_largest_lem : (n : ℕ) (f : ℕ → ℕ) → 0 < largest n f → First n f (first_largest n f)
unfolding largest
first_largest_lem zero f h = absurd (omega arith)
first_largest_lem (suc n) f h = subst (λ m. First m f (first_largest m f)) (add-one n) (go (dec_lt (largest n f) (f n)) (first_largest_lem n f))
  where
    go : Dec (largest n f < f n) → (0 < largest n f → First n f (first_largest n f)) → First (n + 1) f (first_largest (n + 1) f)
    go (yes l) ih =
        let new = largest_new n f l in
        rw new.1
        (record { below = omega arith; has = sym new.0; before = λ j o. omega (arith, le_largest n f j o, new) })
    go (no l) ih =
        let keep = largest_keep n f (omega arith) in
        let k : First n f (first_largest n f) = ih (omega arith) in
        rw keep.1
        (record { below = omega (arith, k.below); has = omega (arith, k.has, keep); before = λ j o. omega (arith, k.before j o, keep) })
