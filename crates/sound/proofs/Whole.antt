-- A test of a whole list is the test at each place below its length (`all_each`), with the place's number beside the element too (`all_numbered`), and for
-- a table that is cut into rows it is one at each place of each row (`all_rows`). By induction on how much is tested. Assumes nothing.
use mathlib.Core.Path.{◌≡◌, refl, sym, ap, ◌∙◌}
use mathlib.Core.Bool.{Bool, true, ◌&&◌, and-true, and_assoc}
use mathlib.Core.List.{List, [], ◌∷◌}
use Prim.Native.Nat.{ℕ, zero, suc, ◌+◌, ◌*◌, ◌%◌, ◌≤◌, ◌<◌}
use native.Mathlib.Nat.{add-zero, add-suc, zero-add, zero-mul, suc-mul}
use native.Mathlib.Numerals.{add-one}
use native.Mathlib.Omega.{arith}
use lib.ListN.{length, get_or, take, drop, replicate}
use lib.Pointwise.{pointwise}
use lib.Seq.{take_all}
use Rattle.std.specs.List.{list_all, fold, enumerate_from}
use Rattle.std.specs.Simd.{first_chunks}
use Rattle.std.proofs.lemmas.List.{length-take, length-drop, get_or-drop, get_or-take}
use Rattle.std.proofs.lemmas.List.Folds.{list_all_more}
use Rattle.std.proofs.lemmas.Nat.{mod-mul-add}
use Rattle.std.proofs.lemmas.List.FromFn.{length-enumerate_from, get_or-enumerate_from}
use Rattle.book.specs.Sound.{each}

-- one test for another
pub same_each : (n : ℕ) (f g : ℕ → Bool) → ((i : ℕ) → i < n → f i ≡ g i) → each n f ≡ each n g
unfolding each
same_each zero f g h = refl
same_each (suc n) f g h = λ k. same_each n f g (λ i o. h i (omega arith)) k && h n (omega arith) k

module _ {A : Type 0} (test : A → Bool) (xs : List A) (d : A) where
  all_front : (n : ℕ) → n ≤ length xs → list_all test (take n xs) ≡ each n (λ i. test (get_or xs i d))
  unfolding each
  all_front zero o = refl
  all_front (suc n) o = (rw add-one at (list_all_more test xs n d (omega arith))) ∙ ap (λ t. t && test (get_or xs n d)) (all_front n (omega arith))

  pub all_each : (n : ℕ) → length xs ≡ n → list_all test xs ≡ each n (λ i. test (get_or xs i d))
  all_each n e = ap (list_all test) (sym (take_all n xs (omega arith))) ∙ all_front n (omega arith)

-- with the number of its place
pub all_numbered : {A : Type 0} (test : ℕ → A → Bool) (xs : List A) (d : A) (n : ℕ) → length xs ≡ n
    → list_all (λ p. test p.0 p.1) (enumerate_from 0 xs) ≡ each n (λ i. test i (get_or xs i d))
all_numbered test xs d n e =
    all_each (λ p. test p.0 p.1) (enumerate_from 0 xs) (0, d) n (length-enumerate_from 0 xs ∙ e)
    ∙ same_each n _ _ (λ i o. ap (λ p. test p.0 p.1) (get_or-enumerate_from 0 xs i (0, d) (omega arith)) ∙ ap (λ k. test k (get_or xs i d)) (zero-add i))

-- tested on to the end
folded : {A : Type 0} (test : A → Bool) (so_far : Bool) (xs : List A) → fold (λ fits x. fits && test x) so_far xs ≡ (so_far && list_all test xs)
folded test so_far [] = sym (and-true so_far)
folded test so_far (x ∷ xs) = folded test (so_far && test x) xs ∙ and_assoc so_far (test x) (list_all test xs)

-- the derived `==` against a list with one entry everywhere
pub all_same : {A : Type 0} (same : A → A → Bool) (xs : List A) (d : A) (n : ℕ) → length xs ≡ n → pointwise same xs (replicate n d) ≡ list_all (λ x. same x d) xs
all_same same [] d zero e = refl
all_same same [] d (suc n) e = absurd (omega arith)
all_same same (x ∷ xs) d zero e = absurd (omega arith)
all_same same (x ∷ xs) d (suc n) e = ap (λ t. same x d && t) (all_same same xs d n (omega arith))

-- ---- in rows
-- a test of n rows of k places is one of n * k places
each_add : (n k : ℕ) (f : ℕ → Bool) → (each n f && each k (λ j. f (n + j))) ≡ each (n + k) f
unfolding each
each_add n zero f = rw (and-true, add-zero)
each_add n (suc k) f = rw (add-suc n k) (sym (and_assoc (each n f) (each k (λ j. f (n + j))) (f (n + k))) ∙ ap (λ t. t && f (n + k)) (each_add n k f))

by_rows : (n k : ℕ) (f : ℕ → Bool) → each n (λ row. each k (λ j. f (row * k + j))) ≡ each (n * k) f
unfolding each
by_rows zero k f = rw (zero-mul k)
by_rows (suc n) k f = rw (suc-mul n k) (ap (λ t. t && each k (λ j. f (n * k + j))) (by_rows n k f) ∙ each_add (n * k) k f)

-- how many rows there are, how long one is, and where its places stand
rows_length : {A : Type 0} (k n : ℕ) (xs : List A) → length (first_chunks k n xs) ≡ n
rows_length k zero xs = refl
rows_length k (suc n) xs = ap (λ m. suc m) (rows_length k n (drop k xs))

row_length : {A : Type 0} (k n r : ℕ) (xs : List A) → r < n → n * k ≤ length xs → length (get_or (first_chunks k n xs) r []) ≡ k
row_length k zero r xs o room = elim o [ ]
row_length k (suc n) zero xs o room = omega (arith, length-take k xs, suc-mul n k)
row_length k (suc n) (suc r) xs o room = row_length k n r (drop k xs) (omega arith) (omega (arith, length-drop k xs, suc-mul n k))

row_at : {A : Type 0} (k n r j : ℕ) (xs : List A) (d : A) → r < n → j < k → get_or (get_or (first_chunks k n xs) r []) j d ≡ get_or xs (r * k + j) d
row_at k zero r j xs d o i = elim o [ ]
row_at k (suc n) zero j xs d o i = rw (zero-mul, zero-add) (get_or-take k xs j d i)
row_at k (suc n) (suc r) j xs d o i =
    let place : k + (r * k + j) ≡ suc r * k + j = omega (arith, suc-mul r k) in
    row_at k n r j (drop k xs) d (omega arith) i ∙ get_or-drop k xs (r * k + j) d ∙ ap (λ m. get_or xs m d) place

-- a test by an element's place in its row
pub all_rows : {A : Type 0} (test : ℕ → A → Bool) (xs : List A) (d : A) (n k : ℕ) → length xs ≡ n * k
    → list_all (λ row. fold (λ fits p. fits && test p.0 p.1) true (enumerate_from 0 row)) (first_chunks k n xs) ≡ each (n * k) (λ i. test (i % k) (get_or xs i d))
all_rows test xs d n k e =
    all_each (λ row. fold (λ fits p. fits && test p.0 p.1) true (enumerate_from 0 row)) (first_chunks k n xs) [] n (rows_length k n xs)
    ∙ same_each n _ _ (λ r o. folded (λ p. test p.0 p.1) true (enumerate_from 0 (get_or (first_chunks k n xs) r [])) ∙ all_numbered test (get_or (first_chunks k n xs) r []) d k (row_length k n r xs o (omega (arith, e))) ∙ same_each k _ _ (λ j i. here r j o i))
    ∙ by_rows n k (λ i. test (i % k) (get_or xs i d))
  where
    here : (r j : ℕ) → r < n → j < k → test j (get_or (get_or (first_chunks k n xs) r []) j d) ≡ test ((r * k + j) % k) (get_or xs (r * k + j) d)
    here r j o i = rw (mod-mul-add r k j i) (ap (test j) (row_at k n r j xs d o i))
