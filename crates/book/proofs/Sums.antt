-- Totals over the ledger and sums over the participants. A sum over participants of a total is the total of that sum (`exchange`), and an allocation counts
-- with one participant only, the one its key names (`one_key`): so the participants' quantities add up to the ledger's (`by_key`). Assumes nothing.
use mathlib.Core.Path.{◌≡◌, refl, sym, ap, ◌∙◌}
use mathlib.Core.Bool.{Bool, true, false, cond, ◌&&◌, and-false}
use mathlib.Core.List.{List, [], ◌∷◌, ◌++◌, map}
use Prim.Native.Nat.{ℕ, zero, suc, ◌+◌, ◌≤◌, ◌<◌}
use native.Mathlib.Nat.{not-suc-le-zero, le_of_suc-le-suc, le_refl, le_of_eq, le_antisymm}
use native.Mathlib.Decide.{dec_lt, ℕ_discrete}
use native.Mathlib.Omega.{arith}
use lib.Dec.{eqb, ltb}
use lib.ListN.{length, get_or, set, take}
use borrow.Author.Tests.{lt-ltb, le-ltb, eq-eqb, ne_eqb}
use Rattle.share.specs.Totals as T
use Rattle.share.specs.Totals.{sum_to}
use Rattle.share.proofs.Sums.{sum-add}
use Rattle.book.specs.Words.{total}

-- ---- totals over a list
module _ {A : Type 0} (f : A → ℕ) where
  pub total-append : (l m : List A) → total f (l ++ m) ≡ total f l + total f m
  unfolding total
  total-append [] m = omega arith
  total-append (a ∷ l) m = omega (arith, total-append l m)

  -- the same as the total of the list of the numbers
  pub total-map : (l : List A) → T.total (map f l) ≡ total f l
  unfolding total T.total
  total-map [] = refl
  total-map (a ∷ l) = ap (λ n. f a + n) (total-map l)

  -- a part from the front has at most the whole
  pub total-take : (i : ℕ) (l : List A) → total f (take i l) ≤ total f l
  unfolding total
  total-take zero l = omega arith
  total-take (suc i) [] = omega arith
  total-take (suc i) (a ∷ l) = omega (arith, total-take i l)

  -- d stands for what is past the end
  module _ (d : A) where
    -- one place rewritten
    pub total-set : (l : List A) (i : ℕ) (a : A) → i < length l → total f (set l i a) + f (get_or l i d) ≡ total f l + f a
    unfolding total
    total-set [] i a h = absurd (not-suc-le-zero h)
    total-set (x ∷ l) zero a h = omega arith
    total-set (x ∷ l) (suc i) a h = omega (arith, total-set l i a (le_of_suc-le-suc h))

    -- nothing at each place
    pub total_none : (l : List A) → ((i : ℕ) → i < length l → f (get_or l i d) ≡ 0) → total f l ≡ 0
    unfolding total
    total_none [] h = refl
    total_none (x ∷ l) h = omega (arith, h 0 (omega arith), total_none l (λ i o. h (suc i) (omega arith)))

-- at most as much at each place, two lists of one length
module _ {A : Type 0} (f g : A → ℕ) (d : A) where
  pub total_le : (l m : List A) → length l ≡ length m → ((i : ℕ) → i < length l → f (get_or l i d) ≤ g (get_or m i d)) → total f l ≤ total g m
  unfolding total
  total_le [] m e h = omega arith
  total_le (x ∷ l) [] e h = omega arith
  total_le (x ∷ l) (y ∷ m) e h = omega (arith, h 0 (omega arith), total_le l m (omega arith) (λ i o. h (suc i) (omega arith)))

pub total_eq : {A : Type 0} (f g : A → ℕ) (d : A) (l : List A) → ((i : ℕ) → i < length l → f (get_or l i d) ≡ g (get_or l i d)) → total f l ≡ total g l
total_eq f g d l h = le_antisymm (total_le f g d l l refl (λ i o. le_of_eq (h i o))) (total_le g f d l l refl (λ i o. le_of_eq (sym (h i o))))

-- two totals in one
pub total-add : {A : Type 0} (f g : A → ℕ) (l : List A) → total f l + total g l ≡ total (λ a. f a + g a) l
unfolding total
total-add f g [] = refl
total-add f g (a ∷ l) = omega (arith, total-add f g l)

-- ---- a sum over the participants below n, of totals
sum_nothing : (n : ℕ) → sum_to n (λ p. 0) ≡ 0
unfolding sum_to
sum_nothing zero = refl
sum_nothing (suc n) = omega (arith, sum_nothing n)

pub exchange : {A : Type 0} (n : ℕ) (f : ℕ → A → ℕ) (l : List A) → sum_to n (λ p. total (f p) l) ≡ total (λ a. sum_to n (λ p. f p a)) l
unfolding total
exchange n f [] = sum_nothing n
exchange n f (a ∷ l) = sum-add n (λ p. f p a) (λ p. total (f p) l) ∙ ap (λ k. sum_to n (λ p. f p a) + k) (exchange n f l)

-- a quantity q that counts, where test t passes, with participant k only
module _ (k q : ℕ) (t : Bool) where
  one_more : (n : ℕ) → cond (ltb k n && t) q 0 + cond (eqb k n && t) q 0 ≡ cond (ltb k (suc n) && t) q 0
  one_more n = by (ℕ_discrete k n) (dec_lt k n)
    where
      by : Dec (k ≡ n) → Dec (k < n) → cond (ltb k n && t) q 0 + cond (eqb k n && t) q 0 ≡ cond (ltb k (suc n) && t) q 0
      by (yes e) o = rw (le-ltb k n (omega arith), eq-eqb k n e, lt-ltb k (suc n) (omega arith)) (omega arith)
      by (no d) (yes o) = rw (lt-ltb k n o, ne_eqb k n d, lt-ltb k (suc n) (omega arith)) (omega arith)
      by (no d) (no o) = rw (le-ltb k n (omega arith), ne_eqb k n d, le-ltb k (suc n) (omega arith))

  pub one_key : (n : ℕ) → sum_to n (λ p. cond (eqb k p && t) q 0) ≡ cond (ltb k n && t) q 0
  unfolding sum_to
  one_key zero = rw (le-ltb k 0 (omega arith))
  one_key (suc n) = ap (λ s. s + cond (eqb k n && t) q 0) (one_key n) ∙ one_more n

-- quantities that count, where a test passes, with the participant that a key names
module _ {A : Type 0} (key quantity : A → ℕ) (test : A → Bool) where
  -- with participant p
  abbrev pub with_key : ℕ → A → ℕ
  with_key p a = cond (eqb (key a) p && test a) (quantity a) 0

  -- with anybody
  abbrev pub counted : A → ℕ
  counted a = cond (test a) (quantity a) 0

  -- one participant has at most all
  pub key_part : (p : ℕ) (a : A) → with_key p a ≤ counted a
  key_part p a = by (eqb (key a) p)
    where
      by : (t : Bool) → cond (t && test a) (quantity a) 0 ≤ cond (test a) (quantity a) 0
      by true = le_refl (cond (test a) (quantity a) 0)
      by false = omega arith

  -- where each key is below n, the participants below n have all that counts
  module _ (n : ℕ) (d : A) where
    here : (a : A) → (test a ≡ true → key a < n) → sum_to n (λ p. with_key p a) ≡ counted a
    here a b = one_key (key a) (quantity a) (test a) n ∙ below (test a) b
      where
        below : (t : Bool) → (t ≡ true → key a < n) → cond (ltb (key a) n && t) (quantity a) 0 ≡ cond t (quantity a) 0
        below true h = rw (lt-ltb (key a) n (h refl))
        below false h = rw and-false

    pub by_key : (l : List A) → ((i : ℕ) → i < length l → test (get_or l i d) ≡ true → key (get_or l i d) < n) → sum_to n (λ p. total (with_key p) l) ≡ total counted l
    by_key l h = exchange n with_key l ∙ total_eq (λ a. sum_to n (λ p. with_key p a)) counted d l (λ i o. here (get_or l i d) (h i o))
