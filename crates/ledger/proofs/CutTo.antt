-- A cut that its ledger allows is shared: quantities are inside their limit, so that the request is not too large, and the accepted total is above the
-- credits, so that there is a weight to share by and no share is above its weight. Assumes nothing.
use mathlib.Core.Path.{◌≡◌, refl, sym, ap, ◌∙◌}
use mathlib.Core.Bool.{Bool, true, false, cond}
use mathlib.Core.List.{List, map}
use Prim.Native.Nat.{ℕ, ◌≤◌, ◌<◌}
use native.Mathlib.Nat.{le_refl}
use native.Mathlib.Omega.{arith}
use lib.ListN.{length, get_or, replicate, length-map}
use Rattle.share.specs.Totals as T
use Rattle.share.specs.Totals.{at}
use Rattle.share.specs.Shares.{share_of}
use Rattle.share.specs.Answers.{shares_after}
use Rattle.share.proofs.Answered.{shared_when}
use Rattle.share.proofs.Limits.{never_too_large}
use Rattle.share.proofs.Promised.{shared_promise, share_long}
use Rattle.book.specs.declared.Allocation.{Allocation}
use Rattle.book.specs.Book.{no_allocation, most_quantity}
use Rattle.book.specs.Words.{accepted_in}
use Rattle.book.specs.Cut.{is_cut}
use Rattle.book.proofs.KeepsCut.{weight_at}
use Rattle.book.proofs.Sums.{total-map}
use Rattle.ledger.specs.Ready.{CutFits}

accepted_low : (g : ℕ) (a : Allocation) → accepted_in g a ≤ a.quantity.0
unfolding accepted_in
accepted_low g a = by (is_cut g a)
  where
    by : (t : Bool) → cond t a.quantity.0 0 ≤ a.quantity.0
    by true = le_refl a.quantity.0
    by false = omega arith

module _ {g credits : ℕ} {t : List Allocation} (f : CutFits g credits t) where
  abbrev weights : List ℕ
  weights = map (accepted_in g) t

  weight_low : (i : ℕ) → at weights i ≤ most_quantity
  weight_low i = omega (arith, weight_at g t i, accepted_low g (get_or t i no_allocation), f.quantities i)

  less : credits < T.total weights
  less = omega (arith, total-map (accepted_in g) t, f.fewer)

  -- for as many shares as there are records
  pub cut_shared : length t ≡ 256 → credits ≤ 100_000_000_000 → (x : List ℕ) → length x ≡ 256 → shares_after weights credits x ≡ share_of weights credits
  cut_shared long few x e =
      (shared_when weights credits x (e ∙ sym (length-map t (accepted_in g) ∙ long))
      (never_too_large weights credits (omega (arith, length-map t (accepted_in g), long)) (λ i _. weight_low i) few)
      (λ _. omega (arith, less))).1

  -- so into a room of zeros, of weights that are said to be these
  pub shared_in : length t ≡ 256 → credits ≤ 100_000_000_000 → (ws shares : List ℕ) → ws ≡ weights → shares ≡ shares_after ws credits (replicate 256 0) → shares ≡ share_of weights credits
  shared_in long few ws shares e h = h ∙ ap (λ w. shares_after w credits (replicate 256 0)) e ∙ cut_shared long few (replicate 256 0) refl

  pub shares_long : length (share_of weights credits) ≡ length t
  shares_long = share_long weights credits ∙ length-map t (accepted_in g)

  -- no share is above the limit of a quantity
  pub share_low : (i : ℕ) → at (share_of weights credits) i ≤ most_quantity
  share_low i = omega (arith, (shared_promise weights credits (λ _. omega (arith, less))).within (omega (arith, less)) i, weight_low i)
