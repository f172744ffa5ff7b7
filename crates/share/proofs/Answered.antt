-- Which answer a request has, by the three tests in their order, and what it says of the lent shares: where it is `Ok`
-- they keep the promise, and else they are as they were.
use mathlib.Core.Path.{◌≡◌, refl, ap, sym, subst}
use mathlib.Core.Logic.{◌≢◌, ⊎_elim}
use mathlib.Core.Bool.{Bool, true, false, cond, not}
use mathlib.Core.List.{List}
use Prim.Native.Nat.{ℕ, ◌<◌}
use native.Mathlib.Nat.{eq-zero-or-pos}
use native.Mathlib.Omega.{arith}
use borrow.Author.Tests.{lt-ltb, le-ltb, eq-eqb, ne_eqb, eqb-true, not-false}
use lib.Dec.{eqb}
use lib.ListN.{length}
use Rattle.std.specs.Prelude.{Result, Ok, Err}
use Rattle.share.specs.declared.Unshared.{Unshared}
use Rattle.share.specs.declared.Unshared.TheVariants.{LengthsDiffer, TooLarge, NoWeight}
use Rattle.share.specs.Totals.{total}
use Rattle.share.specs.Shares.{share_of}
use Rattle.share.specs.Nearness.{Promise}
use Rattle.share.specs.Answers.{too_large, no_weight, answer_of, settled, shares_after}
use Rattle.share.proofs.Promised.{shared_promise}

-- There is a weight, or nothing to share.
pub weighted : (w : List ℕ) (c : ℕ) → (0 < c → 0 < total w) → no_weight w c ≡ false
unfolding no_weight
weighted w c h =
    ⊎_elim
    (λ (e : c ≡ 0). rw (le-ltb 0 c (omega arith)))
    (λ (p : 0 < c). let s : 0 < total w = h p in rw (lt-ltb 0 c p, ne_eqb (total w) 0 (omega arith)))
    (eq-zero-or-pos c)

pub unweighted : (w : List ℕ) (c : ℕ) → 0 < c → total w ≡ 0 → no_weight w c ≡ true
unfolding no_weight
unweighted w c p e = rw (lt-ltb 0 c p, eq-eqb (total w) 0 e)

-- Only where all three tests fail is the request shared.
passed : (d t n : Bool) → ◌≡◌ {A = Result (Unit {0}) Unshared} (cond d (Err LengthsDiffer) (cond t (Err TooLarge) (cond n (Err NoWeight) (Ok tt)))) (Ok tt)
    → (d ≡ false) × (t ≡ false) × (n ≡ false)
passed true t n e = let z : ◌≡◌ {A = ℕ} 0 1 = cc in absurd (omega arith)
passed false true n e = let z : ◌≡◌ {A = ℕ} 0 1 = cc in absurd (omega arith)
passed false false true e = let z : ◌≡◌ {A = ℕ} 0 1 = cc in absurd (omega arith)
passed false false false e = (refl, refl, refl)

-- What a request is that is shared.
pub shared_says : (w : List ℕ) (c n : ℕ) → answer_of w c n ≡ Ok tt → (n ≡ length w) × (too_large w c ≡ false) × (0 < c → 0 < total w)
unfolding answer_of
shared_says w c n e =
    let p = passed (not (eqb n (length w))) (too_large w c) (no_weight w c) e in (
      eqb-true n (length w) (not-false (eqb n (length w)) p.0),
      p.1,
      λ h. ⊎_elim
          (λ (z : total w ≡ 0). let k : ◌≡◌ {A = ℕ} 0 1 = cc (unweighted w c h z, p.2) in absurd (omega arith))
          (λ (s : 0 < total w). s)
          (eq-zero-or-pos (total w)),
    )

-- What an answer other than `Ok` settles.
unsettled : (a : Result (Unit {0}) Unshared) (new old : List ℕ) → a ≢ Ok tt → settled a new old ≡ old
unfolding settled
unsettled (Ok _) new old d = absurd (d refl)
unsettled (Err _) new old d = refl

module _ (w : List ℕ) (c : ℕ) (x : List ℕ) where
  pub answer_lengths : length x ≢ length w → answer_of w c (length x) ≡ Err LengthsDiffer
  unfolding answer_of
  answer_lengths d = rw (ne_eqb (length x) (length w) d)

  pub answer_too_large : length x ≡ length w → too_large w c ≡ true → answer_of w c (length x) ≡ Err TooLarge
  unfolding answer_of
  answer_too_large l t = rw (eq-eqb (length x) (length w) l, t)

  pub answer_no_weight : length x ≡ length w → too_large w c ≡ false → no_weight w c ≡ true → answer_of w c (length x) ≡ Err NoWeight
  unfolding answer_of
  answer_no_weight l t n = rw (eq-eqb (length x) (length w) l, t, n)

  pub answer_shared : length x ≡ length w → too_large w c ≡ false → no_weight w c ≡ false → answer_of w c (length x) ≡ Ok tt
  unfolding answer_of
  answer_shared l t n = rw (eq-eqb (length x) (length w) l, t, n)

  -- An answer settles the shares.
  pub settles : (a : Result (Unit {0}) Unshared) → answer_of w c (length x) ≡ a → shares_after w c x ≡ settled a (share_of w c) x
  unfolding shares_after
  settles a e = ap (λ b. settled b (share_of w c) x) e

  -- A request for as many shares as weights, not too large and with a weight or nothing to share, is shared.
  pub shared_when : length x ≡ length w → too_large w c ≡ false → (0 < c → 0 < total w)
      → (answer_of w c (length x) ≡ Ok tt) × (shares_after w c x ≡ share_of w c)
  unfolding settled
  shared_when l t h = let e : answer_of w c (length x) ≡ Ok tt = answer_shared l t (weighted w c h) in (e, settles (Ok tt) e)

  -- Whatever is shared keeps the promise.
  pub shared_promised : answer_of w c (length x) ≡ Ok tt → Promise w c (shares_after w c x)
  unfolding settled
  shared_promised e = subst (Promise w c) (sym (settles (Ok tt) e)) (shared_promise w c (shared_says w c (length x) e).2)

  -- Whatever is not shared is left as it was.
  pub unshared_kept : answer_of w c (length x) ≢ Ok tt → shares_after w c x ≡ x
  unfolding shares_after
  unshared_kept d = unsettled (answer_of w c (length x)) (share_of w c) x d
