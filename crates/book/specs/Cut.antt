-- Document 01, "The operator's cut": a generator's accepted allocations cut to its tradeable credits. Each exact share is its quantity × tradeable ÷
-- accepted (002, 7.1.6), and `share_of` makes them whole. Statuses stay, and pending submissions are not touched. Assumes nothing.
use Rattle.std.specs.Prelude.{Bool, cond, ◌&&◌, List, [], ◌∷◌, map, ℕ, eqb}
use Rattle.share.specs.Shares.{share_of}
use Rattle.book.specs.declared.Allocation.{Allocation}
use Rattle.book.specs.Words.{is_accepted, accepted_in}

-- an allocation with another quantity
abbrev pub with_quantity : Allocation → ℕ → Allocation
with_quantity a q = record { generator = a.generator; customer = a.customer; quantity = record { 0 = q }; status = a.status }

-- one of the generator's accepted allocations
abbrev pub is_cut : ℕ → Allocation → Bool
is_cut g a = eqb a.generator g && is_accepted a.status

-- each of them gets the quantity at its place in a list; the others stay
unfoldable pub recut : ℕ → List Allocation → List ℕ → List Allocation
recut g [] qs = []
recut g (a ∷ l) [] = a ∷ l
recut g (a ∷ l) (q ∷ qs) = cond (is_cut g a) (with_quantity a q) a ∷ recut g l qs

-- the ledger after the cut of generator g to so many credits: what an allocation does not have of g's accepted total weighs 0
unfoldable pub cut : ℕ → ℕ → List Allocation → List Allocation
cut g credits ledger = recut g ledger (share_of (map (accepted_in g) ledger) credits)
