-- Demand 3, for the ledger: a done OPERATOR AMENDS leaves the generator's accepted quantities as the shares that the crate share promises. An allocation
-- that is cut has its share, and any other weighs nothing and has the share 0, so that the new quantities, read off the new ledger, are the shares.
-- Assumes nothing.
use mathlib.Core.Path.{◌≡◌, refl, sym, ap, subst, ◌∙◌}
use mathlib.Core.Bool.{Bool, true, false, cond}
use mathlib.Core.List.{List, [], ◌∷◌, map}
use Prim.Native.Nat.{ℕ, suc, ◌≤◌, ◌<◌}
use native.Mathlib.Omega.{arith}
use borrow.Author.Tests.{eqb-false}
use lib.ListN.{length, get_or, length-map}
use Rattle.share.specs.Totals.{at}
use Rattle.share.specs.Totals as T
use Rattle.share.specs.Shares.{share_of}
use Rattle.share.specs.Nearness.{Promise}
use Rattle.share.proofs.Promised.{shared_promise, share_long}
use Rattle.units.specs.declared.Minutes.{Minutes}
use Rattle.record.specs.declared.Step.TheVariants.{OperatorAmends}
use Rattle.book.specs.declared.Allocation.{Allocation}
use Rattle.book.specs.Book.{Book, no_allocation}
use Rattle.book.specs.Words.{accepted_in, accepted, tradeable, excess}
use Rattle.book.specs.Reasons.{reason_of, reason15}
use Rattle.book.specs.Cut.{is_cut, with_quantity, recut, cut}
use Rattle.book.specs.Steps.{book_of, done, written}
use Rattle.book.proofs.Sums.{total-map}
use Rattle.book.proofs.NoReason.{no_reason}
use Rattle.book.proofs.Frame.{written_when_done}
use Rattle.book.proofs.KeepsCut.{weight_at}

-- a generator's accepted quantities, one for each record; 0 for a record that is none of them
abbrev pub quantities : ℕ → List Allocation → List ℕ
quantities g ledger = map (accepted_in g) ledger

module _ (g : ℕ) where
  -- one record at its new quantity
  one : (a : Allocation) (q : ℕ) → (accepted_in g a ≡ 0 → q ≡ 0) → accepted_in g (cond (is_cut g a) (with_quantity a q) a) ≡ q
  unfolding accepted_in
  one a q h = by (is_cut g a) refl h
    where
      by : (t : Bool) → is_cut g a ≡ t → (cond t a.quantity.0 0 ≡ 0 → q ≡ 0) → accepted_in g (cond t (with_quantity a q) a) ≡ q
      by true e k = rw e
      by false e k = rw e (sym (k refl))

  -- all of them
  each_one : (l : List Allocation) (qs : List ℕ) → length qs ≡ length l → ((i : ℕ) → accepted_in g (get_or l i no_allocation) ≡ 0 → at qs i ≡ 0) → quantities g (recut g l qs) ≡ qs
  unfolding recut
  each_one [] [] e h = refl
  each_one [] (q ∷ qs) e h = absurd (omega arith)
  each_one (a ∷ l) [] e h = absurd (omega arith)
  each_one (a ∷ l) (q ∷ qs) e h = λ i. one a q (h 0) i ∷ each_one l qs (omega arith) (λ k. h (suc k)) i

  -- the new quantities are the shares
  cut_is : (credits : ℕ) (l : List Allocation) → (0 < credits → 0 < T.total (quantities g l)) → quantities g (cut g credits l) ≡ share_of (quantities g l) credits
  unfolding cut
  cut_is credits l h =
      each_one l (share_of (quantities g l) credits) (share_long (quantities g l) credits ∙ length-map l (accepted_in g))
      (λ i e. (shared_promise (quantities g l) credits h).weightless i (weight_at g l i ∙ e))

-- what a done OPERATOR AMENDS promises of the new ledger
pub record CutPromised (b : Book) (g : ℕ) (after : Book) : Type 0 where
  -- whole thousandths, in total the tradeable credits, nearest to the exact shares, and the only such list
  pub promise : Promise (quantities g b.ledger) (tradeable b g) (quantities g after.ledger)
  -- none above its old one
  pub within : (i : ℕ) → at (quantities g after.ledger) i ≤ at (quantities g b.ledger) i

pub cut_promised : (b : Book) (g : ℕ) (t : Minutes) → reason_of b (OperatorAmends g t) ≡ 0 → CutPromised b g (book_of b (OperatorAmends g t))
unfolding done written reason15
cut_promised b g t e =
    let less : tradeable b g < accepted b g = omega (arith, eqb-false (excess b g) 0 (no_reason b (OperatorAmends g t) e).no15) in
    let sums : T.total (quantities g b.ledger) ≡ accepted b g = total-map (accepted_in g) b.ledger in
    let is : quantities g (book_of b (OperatorAmends g t)).ledger ≡ share_of (quantities g b.ledger) (tradeable b g) =
    ap (λ x. quantities g x.ledger) (written_when_done b (OperatorAmends g t) e) ∙ cut_is g (tradeable b g) b.ledger (λ _. omega arith) in
    let p : Promise (quantities g b.ledger) (tradeable b g) (quantities g (book_of b (OperatorAmends g t)).ledger) =
    subst (Promise (quantities g b.ledger) (tradeable b g)) (sym is) (shared_promise (quantities g b.ledger) (tradeable b g) (λ _. omega arith)) in
    record { promise = p; within = p.within (omega arith) }
