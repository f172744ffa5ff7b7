-- The totals, made record by record. What a record adds stands at its party's own place (`at_place`), and a cap absorbs the cap before it, so that the
-- totals of the records so far become those of one record more (`one_more`). Assumes nothing.
use mathlib.Core.Path.{◌≡◌, ap, ◌∙◌}
use mathlib.Core.Bool.{Bool, cond, ◌&&◌}
use mathlib.Core.List.{List, [], ◌∷◌, ◌++◌}
use Prim.Native.Nat.{ℕ, ◌+◌, ◌<◌}
use native.Mathlib.Omega.{arith}
use lib.Dec.{eqb}
use lib.ListN.{length, get_or, replicate, length-replicate}
use Rattle.std.proofs.lemmas.Bool.Decides.{nat_tests}
use Rattle.std.proofs.lemmas.Grind.{common_steps}
use Rattle.units.specs.Capped.{capped}
use Rattle.book.specs.declared.Allocation.{Allocation}
use Rattle.book.specs.Book.{participants}
use Rattle.book.specs.Words.{is_pending, is_accepted, total, pending_in, accepted_in, received_in}
use Rattle.book.proofs.Tables.{blank}
use Rattle.book.proofs.Sums.{total-append}
use Rattle.sound.specs.declared.made.Totals.{Totals}
use Rattle.sound.specs.Check.{no_totals, as_generator, as_customer, added_to, added_in, CappedTotals}

-- ---- one participant's totals changed
module _ (p : ℕ) (f : Totals → Totals) (ts : List Totals) where
  added_length : length (added_to p f ts) ≡ length ts
  added_length = grind (arith, common_steps)

  at_place : length ts ≡ participants → (q : ℕ) → q < participants → get_or (added_to p f ts) q no_totals ≡ cond (eqb p q) (f (get_or ts q no_totals)) (get_or ts q no_totals)
  at_place long q o = grind (arith, nat_tests, common_steps)

-- ---- what a record adds to the totals t of a participant, who is its generator or not, and its customer or not
module _ (l : Allocation) (t : Totals) where
  abbrev after : Bool → Bool → Totals
  after generator customer = cond customer (as_customer l (cond generator (as_generator l t) t)) (cond generator (as_generator l t) t)

  after_pending : (generator customer : Bool) (n : ℕ) → t.pending.0 ≡ capped n → (after generator customer).pending.0 ≡ capped (cond (generator && is_pending l.status) l.quantity.0 0 + n)
  after_pending generator customer n e = grind arith

  after_made : (generator customer : Bool) (n : ℕ) → t.made.0 ≡ capped n → (after generator customer).made.0 ≡ capped (cond (generator && is_accepted l.status) l.quantity.0 0 + n)
  after_made generator customer n e = grind arith

  after_received : (generator customer : Bool) (n : ℕ) → t.received.0 ≡ capped n → (after generator customer).received.0 ≡ capped (cond (customer && is_accepted l.status) l.quantity.0 0 + n)
  after_received generator customer n e = grind arith

-- ---- the records so far
-- a total over one record more
more : (f : Allocation → ℕ) (ledger : List Allocation) (l : Allocation) → capped (f l + total f ledger) ≡ capped (total f (ledger ++ l ∷ []))
unfolding total
more f ledger l = omega (arith, total-append f ledger (l ∷ []))

pub no_records : CappedTotals (replicate participants no_totals) []
unfolding total
no_records = record {
  long = length-replicate participants no_totals;
  pending = λ p _. ap (λ t. t.pending.0) (blank participants p no_totals);
  made = λ p _. ap (λ t. t.made.0) (blank participants p no_totals);
  received = λ p _. ap (λ t. t.received.0) (blank participants p no_totals);
}

pub one_more : {ts : List Totals} {ledger : List Allocation} (l : Allocation) → CappedTotals ts ledger → CappedTotals (added_in l ts) (ledger ++ l ∷ [])
unfolding added_in pending_in accepted_in received_in
one_more {ts} {ledger} l c = record {
  long = added_length l.customer (as_customer l) made ∙ long;
  pending = λ p o. ap (λ t. t.pending.0) (stands p o) ∙ after_pending l (get_or ts p no_totals) (eqb l.generator p) (eqb l.customer p) (total (pending_in p) ledger) (c.pending p o) ∙ more (pending_in p) ledger l;
  made = λ p o. ap (λ t. t.made.0) (stands p o) ∙ after_made l (get_or ts p no_totals) (eqb l.generator p) (eqb l.customer p) (total (accepted_in p) ledger) (c.made p o) ∙ more (accepted_in p) ledger l;
  received = λ p o. ap (λ t. t.received.0) (stands p o) ∙ after_received l (get_or ts p no_totals) (eqb l.generator p) (eqb l.customer p) (total (received_in p) ledger) (c.received p o) ∙ more (received_in p) ledger l;
}
  where
    made : List Totals
    made = added_to l.generator (as_generator l) ts

    long : length made ≡ participants
    long = added_length l.generator (as_generator l) ts ∙ c.long

    stands : (p : ℕ) → p < participants → get_or (added_to l.customer (as_customer l) made) p no_totals ≡ after l (get_or ts p no_totals) (eqb l.generator p) (eqb l.customer p)
    stands p o =
        at_place l.customer (as_customer l) made long p o
        ∙ ap (λ t. cond (eqb l.customer p) (as_customer l t) t) (at_place l.generator (as_generator l) ts c.long p o)
