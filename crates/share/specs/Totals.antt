-- Totals and largest numbers: of a list, and of a rule that gives a number for each index below a bound.
-- What is said here of sums and of the first largest index is all that the method and its measures need.
use Rattle.std.specs.Prelude.{cond, List, [], ◌∷◌, ℕ, zero, suc, ◌+◌, max, ltb, get_or}

-- The number at an index of a list, and 0 past its end.
abbrev pub at : List ℕ → ℕ → ℕ
at xs i = get_or xs i 0

-- The total of a list.
unfoldable pub total : List ℕ → ℕ
total [] = 0
total (x ∷ xs) = x + total xs

-- f 0 + … + f (n - 1)
unfoldable pub sum_to : ℕ → (ℕ → ℕ) → ℕ
sum_to zero f = 0
sum_to (suc n) f = sum_to n f + f n

-- The largest of f 0 … f (n - 1), and 0 for none.
unfoldable pub largest : ℕ → (ℕ → ℕ) → ℕ
largest zero f = 0
largest (suc n) f = max (largest n f) (f n)

-- The lowest index below n that has it, and 0 where all of them are 0.
unfoldable pub first_largest : ℕ → (ℕ → ℕ) → ℕ
first_largest zero f = 0
first_largest (suc n) f = cond (ltb (largest n f) (f n)) n (first_largest n f)
