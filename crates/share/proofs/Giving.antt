-- The method keeps its shares cut off at a bar. Before any unit is given the bar is above every remainder. Each unit
-- goes to the first of the largest remainders that have none, and twice this remainder is the new bar: whoever has a unit
-- is above it or tied before it, and whoever has none is below it or tied after it. While units are left, some share that
-- is rounded down has a remainder: otherwise the shares would total the amount already.
use mathlib.Core.Path.{◌≡◌, refl, ap, sym, ◌∙◌, subst}
use mathlib.Core.Logic.{◌≢◌}
use mathlib.Core.List.{List, map}
use Prim.Native.Nat.{ℕ, zero, suc, ◌+◌, ◌-◌, ◌*◌, ◌/◌, ◌≤◌, ◌<◌}
use native.Mathlib.Nat.{mul_comm, zero-mul, zero-div, le_of_mul-le-mul_left}
use native.Mathlib.Decide.{dec_lt, ℕ_discrete}
use native.Mathlib.Omega.{arith}
use borrow.Author.Tests.{eq-eqb, ne_eqb}
use lib.ListN.{length, get_or, length-set, length-map, get_or-map}
use lib.Seq.{get_or-set_same, get_or-set_other}
use Rattle.share.specs.Totals.{at, total, sum_to, largest}
use Rattle.share.specs.Shares.{exact, floor, remainder, floors, spare, claim, next, give_one, give, share_of}
use Rattle.share.proofs.Sums.{total-at, total_by, sum_eq, sum_le, sum_times, sum_one_more, term_le}
use Rattle.share.proofs.Largest.{le_largest, First, first_largest_lem}
use Rattle.share.proofs.OneShare.{Side, under, tie_without, over, tie_with, Level, low, high, level}
use Rattle.share.proofs.CutOff.{CutOff, exact_parts, remainder_small, cut-some}

-- Shares x on the way, with so many units left to give.
pub record Given (w : List ℕ) (c left : ℕ) (x : List ℕ) : Type 0 where
  pub long : length x ≡ length w
  pub whole : total x + left ≡ c
  pub cut : CutOff w c x

-- The exact shares total the amount.
exact-total : (w : List ℕ) (c : ℕ) → sum_to (length w) (exact w c) ≡ total w * c
exact-total w c =
    sum_eq (length w) (exact w c) (λ i. c * at w i) (λ i l. mul_comm (at w i) c)
    ∙ sum_times (length w) c (at w)
    ∙ ap (λ k. c * k) (sym (total-at w))
    ∙ mul_comm c (total w)

-- The shares rounded down, by their indices.
pub floors-at : (w : List ℕ) (c i : ℕ) → at (floors w c) i ≡ floor w c i
unfolding floors
floors-at w c i =
    subst (λ d. get_or (map (λ v. v * c / total w) w) i d ≡ floor w c i) (ap (λ k. k / total w) (zero-mul c) ∙ zero-div (total w))
    (get_or-map (λ v. v * c / total w) w i 0)

pub floors_long : (w : List ℕ) (c : ℕ) → length (floors w c) ≡ length w
unfolding floors
floors_long w c = length-map w (λ v. v * c / total w)

pub floors-total : (w : List ℕ) (c : ℕ) → total (floors w c) ≡ sum_to (length w) (floor w c)
floors-total w c =
    sym (total_by w (floors w c) (floors_long w c)) ∙ sum_eq (length w) (at (floors w c)) (floor w c) (λ i l. floors-at w c i)

-- Giving keeps their number.
pub give_long : (w : List ℕ) (c n : ℕ) (x : List ℕ) → length (give w c n x) ≡ length x
unfolding give give_one
give_long w c zero x = refl
give_long w c (suc n) x = give_long w c n (give_one w c x) ∙ length-set x (next w c x) (at x (next w c x) + 1)

-- They total at most the amount.
pub floors_le : (w : List ℕ) (c : ℕ) → 0 < total w → sum_to (length w) (floor w c) ≤ c
floors_le w c some =
    le_of_mul-le-mul_left {k = total w}
    (omega (
      arith,
      sum_times (length w) (total w) (floor w c),
      sum_le (length w) (λ i. total w * floor w c i) (exact w c) (λ i l. omega (arith, exact_parts w c i)),
      exact-total w c,
    ))
    some

-- With no unit given, any bar above twice every remainder serves.
pub given_start : (w : List ℕ) (c : ℕ) → 0 < total w → Given w c (spare w c) (floors w c)
unfolding spare
given_start w c some = record {
  long = floors_long w c;
  whole = omega (arith, floors-total w c, floors_le w c some);
  cut = record {
    bar = 2 * total w - 1;
    stop = 0;
    pos = omega arith;
    top = omega arith;
    side = λ i l. under (floors-at w c i) (omega (arith, remainder_small w c i some));
  };
}

-- A share that is rounded down claims by its remainder, and one that has its unit claims nothing.
pub claim_without : (w : List ℕ) (c : ℕ) (x : List ℕ) (i : ℕ) → at x i ≡ floor w c i → claim w c x i ≡ remainder w c i + 1
unfolding claim
claim_without w c x i e = rw (eq-eqb (at x i) (floor w c i) e)

pub claim_with : (w : List ℕ) (c : ℕ) (x : List ℕ) (i : ℕ) → at x i ≡ floor w c i + 1 → claim w c x i ≡ 0
unfolding claim
claim_with w c x i e = rw (ne_eqb (at x i) (floor w c i) (λ d. omega arith))

-- While units are left, somebody has a remainder and no unit.
claimed : (w : List ℕ) (c left : ℕ) (x : List ℕ) → Given w c left x → 0 < left → 1 < largest (length w) (claim w c x)
claimed w c left x g some = go (dec_lt 1 (largest (length w) (claim w c x)))
  where
    enough : largest (length w) (claim w c x) ≤ 1 → (i : ℕ) → i < length w
        → Level g.cut.bar (floor w c i) (remainder w c i) (at x i) → exact w c i ≤ total w * at x i
    enough h i l (low e _) =
        omega (arith, le_largest (length w) (claim w c x) i l, claim_without w c x i e, exact_parts w c i, ap (λ k. total w * k) e)
    enough h i l (high e _) =
        omega (arith, exact_parts w c i, remainder_small w c i (cut-some w c x g.cut), ap (λ k. total w * k) e)

    go : Dec (1 < largest (length w) (claim w c x)) → 1 < largest (length w) (claim w c x)
    go (yes p) = p
    go (no p) =
        let h : largest (length w) (claim w c x) ≤ 1 = omega arith in
        let m : total w * c ≤ total w * sum_to (length w) (at x) =
        omega (
          arith,
          exact-total w c,
          sum_times (length w) (total w) (at x),
          sum_le (length w) (exact w c) (λ i. total w * at x i) (λ i l. enough h i l (level (g.cut.side i l))),
        ) in
        absurd (omega (arith, le_of_mul-le-mul_left m (cut-some w c x g.cut), total_by w x g.long, g.whole))

-- k is the first with the largest claim, and has a remainder.
module _ (w : List ℕ) (c : ℕ) (x : List ℕ) (cut : CutOff w c x) (k : ℕ) (first : First (length w) (claim w c x) k)
    (more : 1 < claim w c x k) where
  -- It has no unit yet.
  without : (at x k ≡ floor w c k) × (0 < remainder w c k)
  without = go (level (cut.side k first.below))
    where
      go : Level cut.bar (floor w c k) (remainder w c k) (at x k) → (at x k ≡ floor w c k) × (0 < remainder w c k)
      go (low e _) = (e, omega (arith, claim_without w c x k e))
      go (high e _) = absurd (omega (arith, claim_with w c x k e))

  -- The side of a share v at i of the new bar.
  NewSide : ℕ → ℕ → Type 0
  NewSide i v = Side (2 * remainder w c k) (k + 1) i (floor w c i) (remainder w c i) v

  -- Whoever else has no unit comes after it.
  behind : (i : ℕ) → i < length w → i ≢ k → at x i ≡ floor w c i → NewSide i (at x i)
  unfolding NewSide
  behind i l d e = go (dec_lt (remainder w c i) (remainder w c k)) (dec_lt i k)
    where
      claims : (claim w c x i ≡ remainder w c i + 1) × (claim w c x k ≡ remainder w c k + 1)
      claims = (claim_without w c x i e, claim_without w c x k without.0)

      go : Dec (remainder w c i < remainder w c k) → Dec (i < k) → NewSide i (at x i)
      go (yes p) _ = under e (omega arith)
      go (no p) (yes q) = absurd (omega (arith, claims, first.before i q, first.has))
      go (no p) (no q) = tie_without e (omega (arith, claims, le_largest (length w) (claim w c x) i l, first.has)) (omega arith)

  -- Whoever had a unit comes before it.
  others : (i : ℕ) → i < length w → i ≢ k
      → Side cut.bar cut.stop i (floor w c i) (remainder w c i) (at x i)
      → Side cut.bar cut.stop k (floor w c k) (remainder w c k) (at x k)
      → NewSide i (at x i)
  unfolding NewSide
  others i l d (under e h) _ = behind i l d e
  others i l d (tie_without e h s) _ = behind i l d e
  others i l d (over e h) (under a b) = over e (omega arith)
  others i l d (over e h) (tie_without a b t) = over e (omega arith)
  others i l d (over e h) (over a b) = absurd (omega (arith, without))
  others i l d (over e h) (tie_with a b t) = absurd (omega (arith, without))
  others i l d (tie_with e h s) (under a b) = over e (omega arith)
  others i l d (tie_with e h s) (tie_without a b t) = tie_with e (omega arith) (omega arith)
  others i l d (tie_with e h s) (over a b) = absurd (omega (arith, without))
  others i l d (tie_with e h s) (tie_with a b t) = absurd (omega (arith, without))

  -- With one unit more at k, the shares z are cut off again.
  cut_again : (z : List ℕ) → at z k ≡ at x k + 1 → ((i : ℕ) → i ≢ k → at z i ≡ at x i) → CutOff w c z
  unfolding NewSide
  cut_again z new old = record {
    bar = 2 * remainder w c k;
    stop = k + 1;
    pos = omega (arith, without);
    top = omega (arith, remainder_small w c k (cut-some w c x cut));
    side = λ i l. side i l (ℕ_discrete i k);
  }
    where
      side : (i : ℕ) → i < length w → Dec (i ≡ k) → NewSide i (at z i)
      side i l (yes e) = rw e (tie_with (new ∙ ap (λ m. m + 1) without.0) refl (omega arith))
      side i l (no d) = rw (old i d) (others i l d (cut.side i l) (cut.side k first.below))

module _ (w : List ℕ) (c left : ℕ) (x : List ℕ) (g : Given w c left x) (some : 0 < left) where
  -- The next one is the first with the largest claim.
  pub next_first : First (length w) (claim w c x) (next w c x)
  unfolding next
  next_first = first_largest_lem (length w) (claim w c x) (omega (arith, claimed w c left x g some))

  -- With one unit given to it, one unit less is left.
  pub given_next : Given w c (left - 1) (give_one w c x)
  unfolding give_one
  given_next = record {
    long = long;
    whole =
        omega (
          arith,
          g.whole,
          total_by w x g.long,
          total_by w (give_one w c x) long,
          sum_one_more (length w) (at x) (at (give_one w c x)) (next w c x) next_first.below new old,
        );
    cut = cut_again w c x g.cut (next w c x) next_first more (give_one w c x) new old;
  }
    where
      more : 1 < claim w c x (next w c x)
      more = omega (arith, claimed w c left x g some, next_first.has)

      long : length (give_one w c x) ≡ length w
      long = length-set x (next w c x) (at x (next w c x) + 1) ∙ g.long

      new : at (give_one w c x) (next w c x) ≡ at x (next w c x) + 1
      new = get_or-set_same x (next w c x) (at x (next w c x) + 1) 0 (omega (arith, next_first.below, g.long))

      old : (i : ℕ) → i ≢ next w c x → at (give_one w c x) i ≡ at x i
      old i d = get_or-set_other x (next w c x) i (at x (next w c x) + 1) 0 d

-- A share and the units left are at most the amount.
pub given_at_most : (w : List ℕ) (c left : ℕ) (x : List ℕ) → Given w c left x → (i : ℕ) → i < length w → at x i + left ≤ c
given_at_most w c left x g i l = omega (arith, term_le (length w) (at x) i l, total_by w x g.long, g.whole)

-- To give some units is to give one, and then the others.
pub give_next : (w : List ℕ) (c left : ℕ) (x : List ℕ) → 0 < left → give w c (left - 1) (give_one w c x) ≡ give w c left x
unfolding give
give_next w c zero x h = absurd (omega arith)
give_next w c (suc n) x h = let e : suc n - 1 ≡ n = omega arith in ap (λ k. give w c k (give_one w c x)) e

-- All of them given, none is left.
given_all : (w : List ℕ) (c n : ℕ) (x : List ℕ) → Given w c n x → Given w c 0 (give w c n x)
unfolding give
given_all w c zero x g = g
given_all w c (suc n) x g =
    let e : suc n - 1 ≡ n = omega arith in
    given_all w c n (give_one w c x) (subst (λ k. Given w c k (give_one w c x)) e (given_next w c (suc n) x g (omega arith)))

pub given_shared : (w : List ℕ) (c : ℕ) → 0 < total w → Given w c 0 (share_of w c)
unfolding share_of
given_shared w c some = given_all w c (spare w c) (floors w c) (given_start w c some)
