-- The operator's cut on the ledger: generator g's accepted allocations get the quantities at their places and nothing else of the ledger changes
-- (`recut-at`), and those are their shares, since there is a share for each allocation (`cut_quantity`). Assumes nothing.
use mathlib.Core.Path.{◌≡◌, refl, sym, ap, ◌∙◌}
use mathlib.Core.Bool.{Bool, true, false, cond, and-false, true≢false}
use mathlib.Core.List.{List, [], ◌∷◌, map}
use Prim.Native.Nat.{ℕ, zero, suc, ◌≤◌, ◌<◌}
use native.Mathlib.Nat.{not-suc-le-zero, le_of_suc-le-suc}
use native.Mathlib.Decide.{dec_le}
use native.Mathlib.Omega.{arith}
use lib.Dec.{eqb}
use lib.ListN.{length, get_or, length-map, get_or-eq_default}
use Rattle.share.specs.Shares.{share_of}
use Rattle.share.proofs.Promised.{share_long}
use Rattle.book.specs.declared.Allocation.{Allocation}
use Rattle.book.specs.Book.{no_allocation}
use Rattle.book.specs.Words.{accepted_in}
use Rattle.book.specs.Cut.{cut, recut, is_cut, with_quantity}

-- the accepted allocations of generator g get the quantities at their places, as far as these go; the others stay
pub recut-at : (g : ℕ) (l : List Allocation) (qs : List ℕ) (j : ℕ) → let a = get_or l j no_allocation in
    get_or (recut g l qs) j no_allocation ≡ cond (is_cut g a) (with_quantity a (get_or qs j a.quantity.0)) a
unfolding recut
recut-at g [] qs j = sym (ap (λ c. cond c (with_quantity no_allocation (get_or qs j 0)) no_allocation) (and-false (eqb 0 g)))
recut-at g (a ∷ l) [] j = either (is_cut g (get_or (a ∷ l) j no_allocation)) (get_or (a ∷ l) j no_allocation)
  where
    either : (c : Bool) (x : Allocation) → x ≡ cond c x x
    either true x = refl
    either false x = refl
recut-at g (a ∷ l) (q ∷ qs) zero = refl
recut-at g (a ∷ l) (q ∷ qs) (suc j) = recut-at g l qs j

pub recut-length : (g : ℕ) (l : List Allocation) (qs : List ℕ) → length (recut g l qs) ≡ length l
unfolding recut
recut-length g [] qs = refl
recut-length g (a ∷ l) [] = refl
recut-length g (a ∷ l) (q ∷ qs) = ap suc (recut-length g l qs)

-- where a test holds that fails of the empty record, the ledger has a record
pub in_table : (l : List Allocation) (i : ℕ) (test : Allocation → Bool) → test no_allocation ≡ false → test (get_or l i no_allocation) ≡ true → i < length l
in_table l i test e h = within (dec_le (length l) i)
  where
    within : Dec (length l ≤ i) → i < length l
    within (yes o) = absurd (true≢false (sym h ∙ ap test (get_or-eq_default l no_allocation o) ∙ e))
    within (no o) = omega arith

-- inside a list the default is not read
pub any_default : (l : List ℕ) (i d e : ℕ) → i < length l → get_or l i d ≡ get_or l i e
any_default [] i d e h = absurd (not-suc-le-zero h)
any_default (a ∷ l) zero d e h = refl
any_default (a ∷ l) (suc i) d e h = any_default l i d e (le_of_suc-le-suc h)

-- an allocation that is cut has its share
pub cut_quantity : (g credits : ℕ) (l : List Allocation) (i : ℕ) → is_cut g (get_or l i no_allocation) ≡ true
    → (get_or (cut g credits l) i no_allocation).quantity.0 ≡ get_or (share_of (map (accepted_in g) l) credits) i 0
unfolding cut
cut_quantity g credits l i e =
    let shares = share_of (map (accepted_in g) l) credits in
    let here = in_table l i (is_cut g) (and-false (eqb 0 g)) e in
    let long = share_long (map (accepted_in g) l) credits ∙ length-map l (accepted_in g) in
    rw (recut-at g l shares i, e) (any_default shares i (get_or l i no_allocation).quantity.0 0 (omega arith))
