-- Shares that are cut off at one bar are the nearest, and of the nearest the larger at the lowest index where they
-- differ. By `OneShare` the distances of any other list lie on or above lines of one slope, so that with an equal total
-- their sum is no less (`balance`). In a list that is as near, none lies above its line: no share before `stop` is larger
-- than ours, and none from `stop` on smaller, so that one larger at the first difference would make the total larger.
use mathlib.Core.Path.{◌≡◌, ap, sym, ◌∙◌}
use mathlib.Core.List.{List}
use Prim.Native.Nat.{ℕ, ◌+◌, ◌*◌, ◌≤◌, ◌<◌}
use native.Mathlib.Nat.{div-add-mod, mod-lt, mul-le-mul_left, le_of_mul-le-mul_left, lt_of_mul-lt-mul_left}
use native.Mathlib.Decide.{dec_le, dec_lt}
use native.Mathlib.Omega.{arith}
use lib.ListN.{length}
use Rattle.share.specs.Totals.{at, total, sum_to}
use Rattle.share.specs.Shares.{exact, floor, remainder}
use Rattle.share.specs.Nearness.{miss, distance, SharesOut, LargerFirst}
use Rattle.share.proofs.Sums.{at_past, total_by, sum_lt, balance, balance-strict}
use Rattle.share.proofs.OneShare.{Side, Level, low, high, level, place, Line, line, line_larger, line_smaller}

-- The shares x of c over w are cut off at a bar.
pub record CutOff (w : List ℕ) (c : ℕ) (x : List ℕ) : Type 0 where
  pub bar : ℕ
  pub stop : ℕ
  pub pos : 0 < bar
  pub top : bar < 2 * total w
  pub side : (i : ℕ) → i < length w → Side bar stop i (floor w c i) (remainder w c i) (at x i)

-- Rounding down and the remainder make up the exact share.
pub exact_parts : (w : List ℕ) (c i : ℕ) → total w * floor w c i + remainder w c i ≡ exact w c i
exact_parts w c i = div-add-mod (exact w c i) (total w)

pub remainder_small : (w : List ℕ) (c i : ℕ) → 0 < total w → remainder w c i < total w
remainder_small w c i h = mod-lt (exact w c i) h

-- Two lists that share out the same have the same sum.
pub same_sum : (w : List ℕ) (c : ℕ) (x y : List ℕ) → SharesOut w c x → SharesOut w c y
    → sum_to (length w) (at y) ≡ sum_to (length w) (at x)
same_sum w c x y s t = total_by w y t.long ∙ t.whole ∙ sym s.whole ∙ sym (total_by w x s.long)

module _ (w : List ℕ) (c : ℕ) (x : List ℕ) (cut : CutOff w c x) where
  -- A bar stands only over weights.
  pub cut-some : 0 < total w
  cut-some = omega (arith, cut.top)

  pub cut_small : (i : ℕ) → remainder w c i < total w
  cut_small i = remainder_small w c i cut-some

  -- How the line through a share of x compares with the same share of y.
  LineAt : (ℕ → ℕ → Type 0) → List ℕ → ℕ → Type 0
  LineAt R y i = Line R (total w) cut.bar (miss w c x i) (miss w c y i) (at x i) (at y i)

  line_at : (y : List ℕ) (i : ℕ) → i < length w → LineAt ◌≤◌ y i
  unfolding LineAt
  line_at y i l = line (cut_small i) (exact_parts w c i) cut.top (level (cut.side i l)) (place (floor w c i) (at y i))

  larger_at : (y : List ℕ) (i : ℕ) → i < length w → i < cut.stop → at x i < at y i → LineAt ◌<◌ y i
  unfolding LineAt
  larger_at y i l s u =
      line_larger (cut_small i) (exact_parts w c i) cut.pos cut.top s u (cut.side i l) (place (floor w c i) (at y i))

  smaller_at : (y : List ℕ) (i : ℕ) → i < length w → cut.stop ≤ i → at y i < at x i → LineAt ◌<◌ y i
  unfolding LineAt
  smaller_at y i l s u =
      line_smaller (cut_small i) (exact_parts w c i) cut.pos cut.top s u (cut.side i l) (place (floor w c i) (at y i))

  module _ (shares : SharesOut w c x) where
    pub cut_near : (y : List ℕ) → SharesOut w c y → distance w c x ≤ distance w c y
    unfolding distance LineAt
    cut_near y t =
        balance (length w) (total w) cut.bar (miss w c x) (miss w c y) (at x) (at y) (same_sum w c x y shares t) (line_at y)

    -- A list that is above its line anywhere is farther.
    farther : (y : List ℕ) → SharesOut w c y → (k : ℕ) → k < length w → LineAt ◌<◌ y k → distance w c x < distance w c y
    unfolding distance LineAt
    farther y t =
        balance-strict (length w) (total w) cut.bar (miss w c x) (miss w c y) (at x) (at y) (same_sum w c x y shares t) (line_at y)

    pub cut_ties : (y : List ℕ) → SharesOut w c y → distance w c y ≡ distance w c x → LargerFirst x y
    cut_ties y t e k before differ = go (dec_lt k (length w)) (dec_lt (at y k) (at x k)) (dec_lt k cut.stop)
      where
        no_smaller : at x k < at y k → cut.stop ≤ k → (i : ℕ) → i < length w → at x i ≤ at y i
        no_smaller u m i l = pick (dec_le (at x i) (at y i)) (dec_lt i k)
          where
            pick : Dec (at x i ≤ at y i) → Dec (i < k) → at x i ≤ at y i
            pick (yes p) _ = p
            pick (no p) (yes q) = omega (arith, before i q)
            pick (no p) (no q) = omega (arith, farther y t i l (smaller_at y i l (omega arith) (omega arith)))

        go : Dec (k < length w) → Dec (at y k < at x k) → Dec (k < cut.stop) → at y k < at x k
        go (no l) _ _ = absurd (differ (at_past w x shares.long k (omega arith) ∙ sym (at_past w y t.long k (omega arith))))
        go (yes l) (yes p) _ = p
        go (yes l) (no p) (yes q) = omega (arith, farther y t k l (larger_at y k l q (omega arith)))
        go (yes l) (no p) (no q) =
            let u : at x k < at y k = omega arith in
            omega (arith, sum_lt (length w) (at x) (at y) (no_smaller u (omega arith)) k l u, same_sum w c x y shares t)

    -- Where c is at most the total of the weights, no share is above its weight: one that has a unit has a remainder.
    pub cut_within : c ≤ total w → (i : ℕ) → at x i ≤ at w i
    cut_within h i = go (dec_lt i (length w))
      where
        rounded : floor w c i ≤ at w i
        rounded = le_of_mul-le-mul_left {k = total w} (omega (arith, exact_parts w c i, mul-le-mul_left (at w i) h)) cut-some

        raised : 0 < remainder w c i → floor w c i < at w i
        raised p = lt_of_mul-lt-mul_left (total w) (omega (arith, exact_parts w c i, mul-le-mul_left (at w i) h))

        by : Level cut.bar (floor w c i) (remainder w c i) (at x i) → at x i ≤ at w i
        by (low e p) = omega (arith, rounded)
        by (high e p) = omega (arith, raised (omega (arith, cut.pos)))

        go : Dec (i < length w) → at x i ≤ at w i
        go (yes l) = by (level (cut.side i l))
        go (no l) = omega (arith, at_past w x shares.long i (omega arith))

    -- A weight of 0 has no remainder and no share.
    pub cut_weightless : (i : ℕ) → at w i ≡ 0 → at x i ≡ 0
    cut_weightless i z = go (dec_lt i (length w))
      where
        none : (total w * floor w c i ≡ 0) × (remainder w c i ≡ 0)
        none = omega (arith, exact_parts w c i, ap (λ k. k * c) z)

        rounded : floor w c i ≤ 0
        rounded = le_of_mul-le-mul_left {k = total w} (omega (arith, none)) cut-some

        by : Level cut.bar (floor w c i) (remainder w c i) (at x i) → at x i ≡ 0
        by (low e p) = omega (arith, rounded)
        by (high e p) = absurd (omega (arith, none, cut.pos))

        go : Dec (i < length w) → at x i ≡ 0
        go (yes l) = by (level (cut.side i l))
        go (no l) = at_past w x shares.long i (omega arith)
