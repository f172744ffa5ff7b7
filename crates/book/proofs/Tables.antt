-- What rewriting a table of the book does: at one place (`after_set`, `part`), over a run of levels (`run`), and what a table has that starts with one
-- entry everywhere (`blank`). Each by recursion, on the table or on the length of the run. Assumes nothing.
use mathlib.Core.Path.{◌≡◌, refl, sym, ap, subst, ◌∙◌}
use mathlib.Core.Logic.{◌≢◌, ◌⊎◌, inl, inr, ⊎_elim}
use mathlib.Core.List.{List, [], ◌∷◌}
use Prim.Native.Nat.{ℕ, zero, suc, ◌+◌, ◌<◌}
use native.Mathlib.Decide.{ℕ_discrete}
use native.Mathlib.Omega.{arith}
use lib.ListN.{length, get_or, set, replicate, length-set}
use lib.Seq.{get_or-set_same, get_or-set_other}
use Rattle.book.specs.Steps.{changed}

-- what holds of the new entry, and of the old entries elsewhere, holds at every place
pub after_set : {A : Type 0} (P : ℕ → A → Type 0) (l : List A) (i : ℕ) (a d : A) → i < length l → P i a → ((j : ℕ) → j ≢ i → P j (get_or l j d)) → (j : ℕ) → P j (get_or (set l i a) j d)
after_set P l i a d h new old j = by (ℕ_discrete j i)
  where
    by : Dec (j ≡ i) → P j (get_or (set l i a) j d)
    by (yes e) = subst (λ k. P k (get_or (set l i a) k d)) (sym e) (subst (P i) (sym (get_or-set_same l i a d h)) new)
    by (no n) = subst (P j) (sym (get_or-set_other l i j a d n)) (old j n)

-- the entry stands at every place, past the end too
pub blank : {A : Type 0} (n i : ℕ) (d : A) → get_or (replicate n d) i d ≡ d
blank zero i d = refl
blank (suc n) zero d = refl
blank (suc n) (suc i) d = blank n i d

-- one record is rewritten by g: a relation that holds between each record and itself holds between old and new, or M of the one rewritten
module _ {A : Type 0} (R : A → A → Type 0) (same : (a : A) → R a a) (M : Type 0) where
  one : (l : List A) (i : ℕ) (g : A → A) (d : A) (j : ℕ) → (j ≡ i → M ⊎ ((a : A) → R a (g a))) → M ⊎ R (get_or l j d) (get_or (set l i (g (get_or l i d))) j d)
  one [] i g d j h = inr (same d)
  one (a ∷ l) zero g d zero h = ⊎_elim (λ m. inl m) (λ r. inr (r a)) (h refl)
  one (a ∷ l) zero g d (suc j) h = inr (same (get_or l j d))
  one (a ∷ l) (suc i) g d zero h = inr (same a)
  one (a ∷ l) (suc i) g d (suc j) h = one l i g d j (λ e. h (ap suc e))

-- the same for each part of a record
module _ {A Part : Type 0} (R : Part → A → A → Type 0) (same : (f : Part) (a : A) → R f a a) (d : A) (M : ℕ → Part → Type 0) where
  pub part : (l : List A) (i : ℕ) (g : A → A) → ((j : ℕ) (f : Part) → j ≡ i → M j f ⊎ ((a : A) → R f a (g a)))
      → (j : ℕ) (f : Part) → M j f ⊎ R f (get_or l j d) (get_or (set l i (g (get_or l i d))) j d)
  part l i g h j f = one (R f) (same f) (M j f) l i g d j (h j f)

-- a run of levels: another place keeps its level
pub run : (g : ℕ → ℕ) (l : List ℕ) (from n j : ℕ) → ((k : ℕ) × (k < n) × (j ≡ from + k)) ⊎ (get_or (changed g l from n) j 0 ≡ get_or l j 0)
unfolding changed
run g l from zero j = inr refl
run g l from (suc n) j = last (ℕ_discrete j (from + n)) (run g l from n j)
  where
    last : Dec (j ≡ from + n) → ((k : ℕ) × (k < n) × (j ≡ from + k)) ⊎ (get_or (changed g l from n) j 0 ≡ get_or l j 0)
        → ((k : ℕ) × (k < suc n) × (j ≡ from + k)) ⊎ (get_or (changed g l from (suc n)) j 0 ≡ get_or l j 0)
    last (yes e) r = inl (n, omega arith, e)
    last (no e) (inl r) = inl (r.0, omega arith, r.2)
    last (no e) (inr r) = inr (get_or-set_other (changed g l from n) (from + n) j (g (get_or l (from + n) 0)) 0 e ∙ r)

pub run_length : (g : ℕ → ℕ) (l : List ℕ) (from n : ℕ) → length (changed g l from n) ≡ length l
unfolding changed
run_length g l from zero = refl
run_length g l from (suc n) = length-set (changed g l from n) (from + n) (g (get_or l (from + n) 0)) ∙ run_length g l from n
