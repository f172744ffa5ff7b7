-- The operator's cut keeps a book sound: no share is above its weight, and an allocation's weight is its quantity, so that each of the generator's accepted
-- allocations keeps its parties and status and gets no higher quantity. Assumes nothing.
use mathlib.Core.Path.{◌≡◌, refl, sym, ap, ◌∙◌}
use mathlib.Core.Bool.{Bool, true, false, cond, and-false}
use mathlib.Core.List.{List, [], ◌∷◌, map}
use Prim.Native.Nat.{ℕ, zero, suc, ◌≤◌, ◌<◌}
use native.Mathlib.Omega.{arith}
use lib.ListN.{get_or, get_or-map}
use Rattle.share.specs.Totals.{at}
use Rattle.share.specs.Totals as T
use Rattle.share.specs.Shares.{share_of}
use Rattle.share.proofs.Promised.{shared_promise}
use Rattle.book.specs.declared.Allocation.{Allocation}
use Rattle.book.specs.Book.{Book, no_allocation}
use Rattle.book.specs.Words.{accepted_in, accepted}
use Rattle.book.specs.Cut.{with_quantity, is_cut, recut, cut}
use Rattle.book.specs.Steps.{with_ledger}
use Rattle.book.proofs.Recut.{recut-length}
use Rattle.book.proofs.Sums.{total-map}
use Rattle.book.proofs.Sound.{Opened}
use Rattle.book.proofs.KeepsLedger.{Lessened, unchanged, lessened_kept}

module _ (g : ℕ) where
  -- one record, and each of them: no quantity is above what the allocation has of g's accepted total
  one_cut : (a : Allocation) (q : ℕ) → q ≤ accepted_in g a → Lessened a (cond (is_cut g a) (with_quantity a q) a)
  unfolding accepted_in
  one_cut a q h = by (is_cut g a) h
    where
      by : (t : Bool) → q ≤ cond t a.quantity.0 0 → Lessened a (cond t (with_quantity a q) a)
      by true m = record { generator = refl; customer = refl; quantity = m; named = refl; held = λ k. k }
      by false m = unchanged a

  each_cut : (l : List Allocation) (qs : List ℕ) → ((i : ℕ) → at qs i ≤ accepted_in g (get_or l i no_allocation)) → (i : ℕ) → Lessened (get_or l i no_allocation) (get_or (recut g l qs) i no_allocation)
  unfolding recut
  each_cut [] qs h i = unchanged no_allocation
  each_cut (a ∷ l) [] h i = unchanged (get_or (a ∷ l) i no_allocation)
  each_cut (a ∷ l) (q ∷ qs) h zero = one_cut a q (h 0)
  each_cut (a ∷ l) (q ∷ qs) h (suc i) = each_cut l qs (λ k. h (suc k)) i

  nothing_in : accepted_in g no_allocation ≡ 0
  unfolding accepted_in
  nothing_in = rw and-false

  -- a weight is what the allocation at that place has
  pub weight_at : (l : List Allocation) (i : ℕ) → at (map (accepted_in g) l) i ≡ accepted_in g (get_or l i no_allocation)
  weight_at l i = ap (get_or (map (accepted_in g) l) i) (sym nothing_in) ∙ get_or-map (accepted_in g) l i no_allocation

  -- OPERATOR AMENDS, where the credits are below the accepted total
  pub cut_kept : {b : Book} → Opened b → (credits : ℕ) → credits < accepted b g → Opened (with_ledger (cut g credits) b)
  unfolding cut
  cut_kept {b} o credits short =
      lessened_kept o (recut g b.ledger (share_of weights credits)) (recut-length g b.ledger (share_of weights credits))
      (each_cut b.ledger (share_of weights credits) (λ i. omega (arith, (shared_promise weights credits (λ _. omega (arith, less))).within (omega (arith, less)) i, weight_at b.ledger i)))
    where
      weights : List ℕ
      weights = map (accepted_in g) b.ledger

      less : credits < T.total weights
      less = omega (arith, total-map (accepted_in g) b.ledger)
