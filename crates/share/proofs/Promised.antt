-- The promise of `share_of`, wherever there is a weight or nothing to share. The method's shares are cut off at a bar, so
-- that `CutOff`, `Squares` and `Farthest` say what they are worth. That no other list is as good follows from the ties: at
-- the first difference of two such lists each would be the larger. Where nothing is shared, 0 for each is the one way.
use mathlib.Core.Path.{◌≡◌, refl, ap, sym, ◌∙◌, subst}
use mathlib.Core.Logic.{⊎_elim}
use mathlib.Core.List.{List}
use Prim.Native.Nat.{ℕ, zero, suc, ◌/◌, ◌≤◌, ◌<◌}
use native.Mathlib.Nat.{mul-zero, zero-div, zero-sub, le_refl, le_antisymm}
use native.Mathlib.Nat.{not-suc-le-zero, le_of_suc-le-suc, eq-or-lt_of_le, eq-zero-or-pos}
use native.Mathlib.Decide.{dec_lt, ℕ_discrete}
use native.Mathlib.Omega.{arith}
use lib.ListN.{length, replicate, length-replicate, get_or-replicate}
use lib.Seq.{ext_get_or}
use Rattle.share.specs.Totals.{at, total}
use Rattle.share.specs.Shares.{floors, spare, give, share_of}
use Rattle.share.specs.Nearness.{distance, squares, farthest, SharesOut, Nearest, Promise}
use Rattle.share.proofs.Sums.{total-at, at_past, term_le}
use Rattle.share.proofs.CutOff.{cut_near, cut_ties, cut_within, cut_weightless}
use Rattle.share.proofs.Squares.{cut_squared}
use Rattle.share.proofs.Farthest.{cut_worst}
use Rattle.share.proofs.Giving.{Given, floors-at, floors_long, give_long, given_shared}

-- There is a share for each weight, even where there is nothing to share by.
pub share_long : (w : List ℕ) (c : ℕ) → length (share_of w c) ≡ length w
unfolding share_of
share_long w c = give_long w c (spare w c) (floors w c) ∙ floors_long w c

-- Two lists that are nearest are one.
module _ (w : List ℕ) (c : ℕ) (x y : List ℕ) (nx : Nearest w c x) (ny : Nearest w c y) where
  as_near : distance w c y ≡ distance w c x
  as_near = le_antisymm (ny.near x nx.shares) (nx.near y ny.shares)

  agree : (k i : ℕ) → i < k → at x i ≡ at y i
  agree zero i o = absurd (not-suc-le-zero o)
  agree (suc k) i o =
      ⊎_elim
      (λ (e : i ≡ k). subst (λ m. at x m ≡ at y m) (sym e) (here (ℕ_discrete (at x k) (at y k)) (agree k)))
      (λ (m : i < k). agree k i m)
      (eq-or-lt_of_le (le_of_suc-le-suc o))
    where
      here : Dec (at x k ≡ at y k) → ((j : ℕ) → j < k → at x j ≡ at y j) → at x k ≡ at y k
      here (yes d) before = d
      here (no d) before =
          absurd (omega (
            arith,
            nx.ties y ny.shares as_near k before d,
            ny.ties x nx.shares (sym as_near) k (λ j m. sym (before j m)) (λ e. d (sym e)),
          ))

  pub nearest_only : x ≡ y
  nearest_only = ext_get_or 0 x y (nx.shares.long ∙ sym ny.shares.long) (λ i l. agree (length x) i l)

-- A share of 0 for each weight.
abbrev pub zeros : List ℕ → List ℕ
zeros w = replicate (length w) 0

zeros_at : (w : List ℕ) (i : ℕ) → at (zeros w) i ≡ 0
zeros_at w i = go (dec_lt i (length w))
  where
    go : Dec (i < length w) → at (zeros w) i ≡ 0
    go (yes l) = get_or-replicate (length w) i 0 0 l
    go (no l) = at_past w (zeros w) (length-replicate (length w) 0) i (omega arith)

zeros_total : (n : ℕ) → total (replicate n 0) ≡ 0
unfolding total
zeros_total zero = refl
zeros_total (suc n) = omega (arith, zeros_total n)

-- So is nothing shared out.
pub nothing_shared : (w : List ℕ) → share_of w 0 ≡ zeros w
unfolding share_of spare give
nothing_shared w =
    ap (λ n. give w 0 n (floors w 0)) (zero-sub (total (floors w 0)))
    ∙ ext_get_or 0 (floors w 0) (zeros w) (floors_long w 0 ∙ sym (length-replicate (length w) 0))
    (λ i l. floors-at w 0 i ∙ ap (λ k. k / total w) (mul-zero (at w i)) ∙ zero-div (total w) ∙ sym (zeros_at w i))

-- And in no other way.
zeros_only : (w y : List ℕ) → SharesOut w 0 y → zeros w ≡ y
zeros_only w y t =
    let n : length (zeros w) ≡ length y = length-replicate (length w) 0 ∙ sym t.long in
    ext_get_or 0 (zeros w) y n (λ i l. omega (arith, zeros_at w i, term_le (length y) (at y) i (omega arith), total-at y, t.whole))

zeros_promise : (w : List ℕ) → Promise w 0 (zeros w)
zeros_promise w = record {
  nearest = record {
    shares = record { long = length-replicate (length w) 0; whole = zeros_total (length w) };
    near = λ y t. no_less (distance w 0) y t;
    ties = λ y t _ k _ d. absurd (d (ap (λ z. at z k) (zeros_only w y t)));
  };
  only = λ y n. sym (zeros_only w y n.shares);
  within = λ _ i. omega (arith, zeros_at w i);
  weightless = λ i _. zeros_at w i;
  squared = λ y t. no_less (squares w 0) y t;
  worst = λ y t. no_less (farthest w 0) y t;
}
  where
    no_less : (m : List ℕ → ℕ) (y : List ℕ) → SharesOut w 0 y → m (zeros w) ≤ m y
    no_less m y t = subst (λ z. m (zeros w) ≤ m z) (zeros_only w y t) (le_refl (m (zeros w)))

-- What all units given are worth.
module _ (w : List ℕ) (c : ℕ) (x : List ℕ) (g : Given w c 0 x) where
  shares_out : SharesOut w c x
  shares_out = record { long = g.long; whole = omega (arith, g.whole) }

  given_nearest : Nearest w c x
  given_nearest = record { shares = shares_out; near = cut_near w c x g.cut shares_out; ties = cut_ties w c x g.cut shares_out }

  given_promise : Promise w c x
  given_promise = record {
    nearest = given_nearest;
    only = λ y n. nearest_only w c y x n given_nearest;
    within = cut_within w c x g.cut shares_out;
    weightless = cut_weightless w c x g.cut shares_out;
    squared = cut_squared w c x g.cut shares_out;
    worst = cut_worst w c x g.cut shares_out;
  }

-- The promise.
pub shared_promise : (w : List ℕ) (c : ℕ) → (0 < c → 0 < total w) → Promise w c (share_of w c)
shared_promise w c h =
    ⊎_elim
    (λ (e : c ≡ 0). subst (λ k. Promise w k (share_of w k)) (sym e) (subst (Promise w 0) (sym (nothing_shared w)) (zeros_promise w)))
    (λ (p : 0 < c). given_promise w c (share_of w c) (given_shared w c (h p)))
    (eq-zero-or-pos c)
