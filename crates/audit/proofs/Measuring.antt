-- Distances of comparable quantities fit 64 bits: each is at most the two products that it lies between, and in all these are the total of the old
-- quantities times that of the new ones and times the credits (`sum_fits`). So the sum of those found is the distance (`measured`). Assumes nothing.
use mathlib.Core.Path.{◌≡◌, sym, ap, ◌∙◌}
use mathlib.Core.Bool.{true, false, and-false}
use mathlib.Core.List.{List}
use Prim.Native.Nat.{ℕ, ◌+◌, ◌*◌, ◌^◌, ◌≤◌, ◌<◌}
use native.Mathlib.Decide.{dec_lt}
use native.Mathlib.Nat.{mul_comm, mul-le-mul, le_trans}
use native.Mathlib.Omega.{arith}
use borrow.Author.Tests.{le-leb, lt-leb}
use lib.Dec.{leb}
use lib.ListN.{length, replicate, length-replicate, get_or-replicate}
use Rattle.std.specs.List.{sum}
use Rattle.share.specs.Totals.{at, total, sum_to}
use Rattle.share.specs.Nearness.{apart, miss, distance}
use Rattle.share.proofs.Sums.{total-sum, total-at, at_past, sum-add, sum_times, sum_le, sum_eq, term_le}
use Rattle.book.specs.Book.{most_quantity}
use Rattle.audit.specs.Measuring.{comparable, Comparable, MissEach, Measures}

-- a quantity is at most the total
at_most : (w : List ℕ) (i : ℕ) → at w i ≤ total w
at_most w i = by (dec_lt i (length w))
  where
    by : Dec (i < length w) → at w i ≤ total w
    by (yes o) = omega (arith, total-at w, term_le (length w) (at w) i o)
    by (no o) = omega (arith, at_past w w (λ _. length w) i (omega arith))

apart_most : (a b : ℕ) → apart a b ≤ a + b
apart_most a b = omega arith

module _ (w : List ℕ) (c : ℕ) (x : List ℕ) (small : c < 2 ^ 32) (f : Comparable w x) where
  word : c ≤ 4294967295
  word = omega arith

  -- the two products
  pub has_most : (i : ℕ) → total w * at x i ≤ most_quantity * most_quantity
  has_most i = mul-le-mul f.before (le_trans (at_most x i) f.after)

  pub exact_most : (i : ℕ) → at w i * c ≤ most_quantity * 4294967295
  exact_most i = mul-le-mul (le_trans (at_most w i) f.before) word

  -- all distances
  pub sum_fits : length w ≡ 256 → length x ≡ 256 → sum_to 256 (miss w c x) < 2 ^ 64
  sum_fits lw lx =
      let each = sum_le 256 (miss w c x) (λ i. total w * at x i + c * at w i) (λ i _. omega (arith, apart_most (total w * at x i) (at w i * c), mul_comm (at w i) c)) in
      let sums = sum-add 256 (λ i. total w * at x i) (λ i. c * at w i) in
      let new : sum_to 256 (at x) ≡ total x = ap (λ n. sum_to n (at x)) (sym lx) ∙ sym (total-at x) in
      let old : sum_to 256 (at w) ≡ total w = ap (λ n. sum_to n (at w)) (sym lw) ∙ sym (total-at w) in
      let had : total w * sum_to 256 (at x) ≤ most_quantity * most_quantity = rw new (mul-le-mul f.before f.after) in
      let gets : c * sum_to 256 (at w) ≤ 4294967295 * most_quantity = rw old (mul-le-mul word f.before) in
      omega (arith, sum_times 256 (total w) (at x), sum_times 256 c (at w))

-- the distances found sum up to those that there are
sum_each : (w : List ℕ) (c : ℕ) (x each : List ℕ) → MissEach w c x each → sum each ≡ sum_to 256 (miss w c x)
sum_each w c x each m = sym (total-sum each) ∙ total-at each ∙ ap (λ n. sum_to n (at each)) m.long ∙ sum_eq 256 (at each) (miss w c x) m.is

pub each_fits : (w : List ℕ) (c : ℕ) (x each : List ℕ) → c < 2 ^ 32 → Comparable w x → length w ≡ 256 → length x ≡ 256 → MissEach w c x each → sum each < 2 ^ 64
each_fits w c x each small f lw lx m = omega (arith, sum_each w c x each m, sum_fits w c x small f lw lx)

-- which is the distance
sum_is : (w : List ℕ) (c : ℕ) (x each : List ℕ) → length w ≡ 256 → MissEach w c x each → sum each ≡ distance w c x
unfolding distance
sum_is w c x each l m = sum_each w c x each m ∙ ap (λ n. sum_to n (miss w c x)) (sym l)

-- ---- what is answered
module _ (w : List ℕ) (c : ℕ) (x : List ℕ) where
  -- nothing
  pub unmeasured : comparable w x ≡ false → Measures w c x (record { accepted = 0; each = replicate 256 0; sum = 0 })
  unmeasured t = record {
    accepted_is = rw t;
    long = length-replicate {A = ℕ} 256 0;
    each_is = λ i o. rw t (get_or-replicate {A = ℕ} 256 i 0 0 o);
    sum_is = rw t;
  }

  pub too_much_before : most_quantity < total w → comparable w x ≡ false
  unfolding comparable
  too_much_before o = rw (lt-leb (total w) most_quantity o)

  pub too_much_after : most_quantity < total x → comparable w x ≡ false
  unfolding comparable
  too_much_after o = rw (lt-leb (total x) most_quantity o, and-false (leb (total w) most_quantity))

  -- the distances, and all of them
  pub measured : Comparable w x → length w ≡ 256 → (accepted sum' : ℕ) (each : List ℕ) → accepted ≡ total w → MissEach w c x each → sum' ≡ sum each → Measures w c x (record { accepted = accepted; each = each; sum = sum' })
  unfolding comparable
  measured f l accepted sum' each a m e =
      let both : comparable w x ≡ true = rw (le-leb (total w) most_quantity f.before, le-leb (total x) most_quantity f.after) in
      record { accepted_is = rw both a; long = m.long; each_is = λ i o. rw both (m.is i o); sum_is = rw both (e ∙ sum_is w c x each l m) }
