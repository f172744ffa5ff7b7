-- What a test that computes tells, and what makes it pass: joined by `&&` and `||`, at each place (`each`), at some place (`some`). By cases on the tests,
-- and by induction on the bound. Assumes nothing.
use mathlib.Core.Path.{◌≡◌, refl, ap, ◌∙◌}
use mathlib.Core.Bool.{Bool, true, false, ◌&&◌, ◌||◌, and-eq-true_iff}
use mathlib.Core.Logic.{◌⊎◌, inl, inr, ⊎_elim}
use Prim.Native.Nat.{ℕ, zero, suc, ◌<◌}
use native.Mathlib.Nat.{not-suc-le-zero, le_of_suc-le-suc, eq-or-lt_of_le}
use native.Mathlib.Omega.{arith}
use Rattle.book.specs.Sound.{each}
use Rattle.book.specs.Reasons.{some}

-- ---- joined tests
pub and_left : (a b : Bool) → (a && b) ≡ true → a ≡ true
and_left a b h = ((and-eq-true_iff a b).0 h).0

pub and_right : (a b : Bool) → (a && b) ≡ true → b ≡ true
and_right a b h = ((and-eq-true_iff a b).0 h).1

-- for `search`, which runs them forwards: any part of a long `&&`
pub ruleset parts = (and_left, and_right)

pub both : (a b : Bool) → a ≡ true → b ≡ true → (a && b) ≡ true
both a b h k = (and-eq-true_iff a b).1 (h, k)

pub either : (a b : Bool) → (a || b) ≡ true → (a ≡ true) ⊎ (b ≡ true)
either true b h = inl refl
either false b h = inr h

pub neither : (a b : Bool) → (a || b) ≡ false → (a ≡ false) × (b ≡ false)
neither true b h = absurd (let z : ◌≡◌ {A = ℕ} 0 1 = cc in omega arith)
neither false b h = (refl, h)

-- ---- a test at each place below n
pub each_of : (n : ℕ) (f : ℕ → Bool) → each n f ≡ true → (i : ℕ) → i < n → f i ≡ true
unfolding each
each_of zero f h i o = absurd (not-suc-le-zero o)
each_of (suc n) f h i o =
    ⊎_elim (λ (e : i ≡ n). ap f e ∙ and_right (each n f) (f n) h) (λ (l : i < n). each_of n f (and_left (each n f) (f n) h) i l) (eq-or-lt_of_le (le_of_suc-le-suc o))

pub to_each : (n : ℕ) (f : ℕ → Bool) → ((i : ℕ) → i < n → f i ≡ true) → each n f ≡ true
unfolding each
to_each zero f h = refl
to_each (suc n) f h = both (each n f) (f n) (to_each n f (λ i o. h i (omega arith))) (h n (omega arith))

-- ---- a test that passes at no place below n
pub none_of : (n : ℕ) (f : ℕ → Bool) → some n f ≡ false → (i : ℕ) → i < n → f i ≡ false
unfolding some
none_of zero f h i o = absurd (not-suc-le-zero o)
none_of (suc n) f h i o =
    ⊎_elim (λ (e : i ≡ n). ap f e ∙ (neither (some n f) (f n) h).1) (λ (l : i < n). none_of n f (neither (some n f) (f n) h).0 i l) (eq-or-lt_of_le (le_of_suc-le-suc o))
