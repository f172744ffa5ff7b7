-- Laws of totals and sums, by induction on the bound. A list's total is the sum over its indices (`total-at`), so that
-- the others speak of sums alone. `balance` is what nearness rests on: an inequality at every index, with multiples of x
-- and y added on its sides, holds of the sums without them where x and y have one sum.
use mathlib.Core.Path.{◌≡◌, refl, ap, sym, ◌∙◌}
use mathlib.Core.Logic.{◌≢◌, ⊎_elim}
use mathlib.Core.List.{List, [], ◌∷◌}
use Prim.Native.Nat.{ℕ, zero, suc, ◌+◌, ◌*◌, ◌≤◌, ◌<◌, min}
use native.Mathlib.Nat.{not-suc-le-zero, eq-or-lt_of_le, le_of_suc-le-suc}
use native.Mathlib.Numerals.{add-one}
use native.Mathlib.Omega.{arith}
use lib.ListN.{length, get_or-eq_default}
use Rattle.std.specs.List.{fold, sum}
use Rattle.std.proofs.lemmas.List.Recursion.{is_sum_by}
use Rattle.share.specs.Totals.{at, total, sum_to}

-- The first term taken apart.
sum_front : (n : ℕ) (f : ℕ → ℕ) → sum_to (suc n) f ≡ f 0 + sum_to n (λ i. f (suc i))
unfolding sum_to
sum_front zero f = omega arith
sum_front (suc n) f = omega (arith, sum_front n f)

-- A list's total is the library's sum.
pub total-sum : (xs : List ℕ) → total xs ≡ sum xs
unfolding total
total-sum xs = is_sum_by total (λ x. x) refl (λ _ _. refl) xs

-- Counted up to a number m at each step, it is counted up to m.
pub total_capped : (m s : ℕ) (xs : List ℕ) → s ≤ m → fold (λ a x. min (a + x) m) s xs ≡ min (s + total xs) m
unfolding total
total_capped m s [] h = omega arith
total_capped m s (x ∷ xs) h = omega (arith, total_capped m (min (s + x) m) xs (omega arith))

-- A list's total, by its indices.
pub total-at : (xs : List ℕ) → total xs ≡ sum_to (length xs) (at xs)
unfolding total sum_to
total-at [] = refl
total-at (x ∷ xs) = ap (λ k. x + k) (total-at xs) ∙ sym (sum_front (length xs) (at (x ∷ xs)))

-- The same, by the indices of another list as long.
pub total_by : (w x : List ℕ) → length x ≡ length w → sum_to (length w) (at x) ≡ total x
total_by w x l = ap (λ n. sum_to n (at x)) (sym l) ∙ sym (total-at x)

-- Past the end of a list stands 0.
pub at_past : (w x : List ℕ) → length x ≡ length w → (i : ℕ) → length w ≤ i → at x i ≡ 0
at_past w x e i l = get_or-eq_default x 0 (omega arith)

-- One term more.
pub sum_next : (n : ℕ) (f : ℕ → ℕ) → sum_to (n + 1) f ≡ sum_to n f + f n
unfolding sum_to
sum_next n f = rw add-one

-- Sums of sums, and of multiples.
pub sum-add : (n : ℕ) (f g : ℕ → ℕ) → sum_to n (λ i. f i + g i) ≡ sum_to n f + sum_to n g
unfolding sum_to
sum-add zero f g = omega arith
sum-add (suc n) f g = omega (arith, sum-add n f g)

pub sum_times : (n p : ℕ) (f : ℕ → ℕ) → sum_to n (λ i. p * f i) ≡ p * sum_to n f
unfolding sum_to
sum_times zero p f = omega arith
sum_times (suc n) p f = omega (arith, sum_times n p f)

-- Sums of terms that compare at every index.
pub sum_le : (n : ℕ) (f g : ℕ → ℕ) → ((i : ℕ) → i < n → f i ≤ g i) → sum_to n f ≤ sum_to n g
unfolding sum_to
sum_le zero f g h = omega arith
sum_le (suc n) f g h = omega (arith, sum_le n f g (λ i l. h i (omega arith)), h n (omega arith))

pub sum_lt : (n : ℕ) (f g : ℕ → ℕ) → ((i : ℕ) → i < n → f i ≤ g i) → (k : ℕ) → k < n → f k < g k → sum_to n f < sum_to n g
unfolding sum_to
sum_lt zero f g h k l s = omega arith
sum_lt (suc n) f g h k l s =
    ⊎_elim
    (λ (e : k ≡ n). omega (arith, sum_le n f g (λ i m. h i (omega arith)), rw e at s))
    (λ (m : k < n). omega (arith, sum_lt n f g (λ i o. h i (omega arith)) k m s, h n (omega arith)))
    (eq-or-lt_of_le (le_of_suc-le-suc l))

pub sum_eq : (n : ℕ) (f g : ℕ → ℕ) → ((i : ℕ) → i < n → f i ≡ g i) → sum_to n f ≡ sum_to n g
unfolding sum_to
sum_eq zero f g h = omega arith
sum_eq (suc n) f g h = omega (arith, sum_eq n f g (λ i l. h i (omega arith)), h n (omega arith))

-- One term is one more, and the others are as they were.
pub sum_one_more : (n : ℕ) (f g : ℕ → ℕ) (k : ℕ) → k < n → g k ≡ f k + 1 → ((j : ℕ) → j ≢ k → g j ≡ f j)
    → sum_to n g ≡ sum_to n f + 1
unfolding sum_to
sum_one_more zero f g k l e o = absurd (not-suc-le-zero l)
sum_one_more (suc n) f g k l e o =
    ⊎_elim
    (λ (d : k ≡ n). omega (arith, sum_eq n g f (λ j m. o j (omega arith)), ap f d, ap g d))
    (λ (m : k < n). omega (arith, sum_one_more n f g k m e o, o n (omega arith)))
    (eq-or-lt_of_le (le_of_suc-le-suc l))

-- Fewer terms sum up to less.
pub sum_fewer : (m n : ℕ) (f : ℕ → ℕ) → m ≤ n → sum_to m f ≤ sum_to n f
unfolding sum_to
sum_fewer zero n f l = omega arith
sum_fewer (suc m) zero f l = omega arith
sum_fewer (suc m) (suc n) f l =
    ⊎_elim
    (λ (e : m ≡ n). rw e (omega arith))
    (λ (o : m < n). omega (arith, sum_fewer (suc m) n f o))
    (eq-or-lt_of_le (le_of_suc-le-suc l))

-- Each term is at most the sum.
pub term_le : (n : ℕ) (f : ℕ → ℕ) (k : ℕ) → k < n → f k ≤ sum_to n f
term_le n f k l = omega (arith, sum_fewer (k + 1) n f (omega arith), sum_next k f)

-- A bound on each term.
pub sum_bound : (n p : ℕ) (f : ℕ → ℕ) → ((i : ℕ) → i < n → f i ≤ p) → sum_to n f ≤ n * p
unfolding sum_to
sum_bound zero p f h = omega arith
sum_bound (suc n) p f h = omega (arith, sum_bound n p f (λ i l. h i (omega arith)), h n (omega arith))

-- A sum of terms, each with a multiple of u and one of v.
sum-line : (n p q : ℕ) (d u v : ℕ → ℕ) → sum_to n (λ i. d i + p * u i + q * v i) ≡ sum_to n d + p * sum_to n u + q * sum_to n v
sum-line n p q d u v =
    omega (arith, sum-add n (λ i. d i + p * u i) (λ i. q * v i), sum-add n d (λ i. p * u i), sum_times n p u, sum_times n q v)

-- x and y have one sum, and at each index d is at most e with the multiples of x and y added.
module _ (n p q : ℕ) (d e x y : ℕ → ℕ) (same : sum_to n y ≡ sum_to n x)
    (each : (i : ℕ) → i < n → d i + p * y i + q * x i ≤ e i + p * x i + q * y i) where
  -- The sums of both sides, and the multiples that are equal.
  sides : (sum_to n (λ i. d i + p * y i + q * x i) ≡ sum_to n d + p * sum_to n y + q * sum_to n x)
      × (sum_to n (λ i. e i + p * x i + q * y i) ≡ sum_to n e + p * sum_to n x + q * sum_to n y)
      × (p * sum_to n y ≡ p * sum_to n x) × (q * sum_to n y ≡ q * sum_to n x)
  sides = (sum-line n p q d y x, sum-line n p q e x y, ap (λ k. p * k) same, ap (λ k. q * k) same)

  pub balance : sum_to n d ≤ sum_to n e
  balance = omega (arith, sides, sum_le n (λ i. d i + p * y i + q * x i) (λ i. e i + p * x i + q * y i) each)

  -- Less at one index is less in all.
  pub balance-strict : (k : ℕ) → k < n → d k + p * y k + q * x k < e k + p * x k + q * y k → sum_to n d < sum_to n e
  balance-strict k l s = omega (arith, sides, sum_lt n (λ i. d i + p * y i + q * x i) (λ i. e i + p * x i + q * y i) each k l s)
