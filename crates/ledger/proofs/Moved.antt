-- The table of totals stays that of the ledger when one record is replaced by another of the same parties, or an empty one is filled. By columns: a
-- participant's total less what the old record gave it, with what the new one gives, is its total in the new ledger (`column`). Assumes nothing.
use mathlib.Core.Path.{◌≡◌, refl, sym, ap, ◌∙◌}
use mathlib.Core.Logic.{◌⊎◌, inl, inr}
use mathlib.Core.Bool.{Bool, true, false, cond, ◌&&◌}
use mathlib.Core.List.{List}
use Prim.Native.Nat.{ℕ, ◌+◌, ◌-◌, ◌≤◌, ◌<◌}
use native.Mathlib.Nat.{le_refl}
use native.Mathlib.Decide.{ℕ_discrete}
use native.Mathlib.Omega.{arith}
use lib.Dec.{eqb}
use lib.ListN.{length, get_or, set, length-set}
use lib.Seq.{get_or-set_same, get_or-set_other}
use borrow.Author.Tests.{eq-eqb, ne_eqb}
use Rattle.book.specs.declared.Allocation.{Allocation}
use Rattle.book.specs.Book.{no_allocation, participants, most_quantity}
use Rattle.book.specs.Words.{is_pending, is_accepted, pending_in, accepted_in, received_in, total}
use Rattle.book.proofs.Sums.{total-set}
use Rattle.reasons.specs.Parts.{pends, counts}
use Rattle.sound.specs.declared.made.Totals.{Totals}
use Rattle.sound.specs.Check.{no_totals}
use Rattle.ledger.specs.Writing.{generator_after, customer_after, totals_after}
use Rattle.ledger.specs.Ready.{TotalsFit, Totalled, TotalsMove}

-- a record of the same parties, or one in an empty place
pub data Replaces (old new : Allocation) : Type 0 where
  rewritten : old.generator ≡ new.generator → old.customer ≡ new.customer → Replaces old new
  filled : old ≡ no_allocation → Replaces old new

-- ---- one column: quantities that count, where a test passes, with the participant that a key names
nothing : (t : Bool) → ◌≡◌ {A = ℕ} (cond t 0 0) 0
nothing true = refl
nothing false = refl

module _ (key : Allocation → ℕ) (test : Allocation → Bool) where
  abbrev given : Allocation → ℕ
  given a = cond (test a) a.quantity.0 0

  abbrev share : ℕ → Allocation → ℕ
  share p a = cond (eqb (key a) p && test a) a.quantity.0 0

  share_is : (p : ℕ) (a : Allocation) → share p a ≡ cond (eqb (key a) p) (given a) 0
  share_is p a = by (eqb (key a) p)
    where
      by : (t : Bool) → cond (t && test a) a.quantity.0 0 ≡ cond t (given a) 0
      by true = refl
      by false = refl

  -- what replacing the i-th record of l does to a column
  record Column (l : List Allocation) (i : ℕ) (old new : Allocation) : Type 0 where
    room : given old ≤ total (share (key new)) l
    moved : (p before : ℕ) → before ≡ total (share p) l → cond (eqb (key new) p) (before - given old + given new) before ≡ total (share p) (set l i new)

  module _ (l : List Allocation) (i : ℕ) (old new : Allocation) (inside : i < length l) (here : get_or l i no_allocation ≡ old) (parties : (key old ≡ key new) ⊎ (old ≡ no_allocation)) where
    -- what the old record gave, it gave the new one's participant
    old_share : (p : ℕ) → share p old ≡ cond (eqb (key new) p) (given old) 0
    old_share p = share_is p old ∙ by parties
      where
        by : (key old ≡ key new) ⊎ (old ≡ no_allocation) → cond (eqb (key old) p) (given old) 0 ≡ cond (eqb (key new) p) (given old) 0
        by (inl e) = ap (λ k. cond (eqb k p) (given old) 0) e
        by (inr e) = rw (e, nothing (test no_allocation), nothing (eqb (key no_allocation) p)) (sym (nothing (eqb (key new) p)))

    -- and it is in that participant's total
    old_part : (p : ℕ) → cond (eqb (key new) p) (given old) 0 ≤ total (share p) l
    old_part p = omega (arith, old_share p, ap (share p) here, total-set (share p) no_allocation l i no_allocation inside, nothing (eqb (key no_allocation) p && test no_allocation))

    -- the new total and what the old record gave are the old total and what the new one gives
    new_total : (p : ℕ) → total (share p) (set l i new) + cond (eqb (key new) p) (given old) 0 ≡ total (share p) l + cond (eqb (key new) p) (given new) 0
    new_total p = omega (arith, old_share p, share_is p new, ap (share p) here, total-set (share p) no_allocation l i new inside)

    column : Column l i old new
    column = record {
      room = rw (eq-eqb (key new) (key new) refl) at (old_part (key new));
      moved = λ p before e. by (eqb (key new) p) before (rw (← e) at (old_part p)) (rw (← e) at (new_total p));
    }
      where
        by : {after : ℕ} (t : Bool) (before : ℕ) → cond t (given old) 0 ≤ before → after + cond t (given old) 0 ≡ before + cond t (given new) 0 → cond t (before - given old + given new) before ≡ after
        by true before part e = omega arith
        by false before part e = omega arith

-- ---- the table
-- one of the three totals of participant p, once the totals of participant k are x: it stays where x has k's own, and where x has k's moved it is moved for k
module _ (f : Totals → ℕ) (ts : List Totals) (k p : ℕ) (x : Totals) (inside : k < length ts) where
  pub stays : f x ≡ f (get_or ts k no_totals) → f (get_or (set ts k x) p no_totals) ≡ f (get_or ts p no_totals)
  stays e = by (ℕ_discrete p k)
    where
      by : Dec (p ≡ k) → f (get_or (set ts k x) p no_totals) ≡ f (get_or ts p no_totals)
      by (yes s) = rw (s, get_or-set_same ts k x no_totals inside) e
      by (no d) = ap f (get_or-set_other ts k p x no_totals d)

  moves_at : (gave gives : ℕ) → f x ≡ f (get_or ts k no_totals) - gave + gives
      → f (get_or (set ts k x) p no_totals) ≡ cond (eqb k p) (f (get_or ts p no_totals) - gave + gives) (f (get_or ts p no_totals))
  moves_at gave gives e = by (ℕ_discrete p k)
    where
      by : Dec (p ≡ k) → f (get_or (set ts k x) p no_totals) ≡ cond (eqb k p) (f (get_or ts p no_totals) - gave + gives) (f (get_or ts p no_totals))
      by (yes s) = rw (s, eq-eqb k k refl, get_or-set_same ts k x no_totals inside) e
      by (no d) = rw (ne_eqb k p (λ e. d (sym e)), get_or-set_other ts k p x no_totals d)

by_generator : {old new : Allocation} → Replaces old new → (old.generator ≡ new.generator) ⊎ (old ≡ no_allocation)
by_generator (rewritten g c) = inl g
by_generator (filled e) = inr e

by_customer : {old new : Allocation} → Replaces old new → (old.customer ≡ new.customer) ⊎ (old ≡ no_allocation)
by_customer (rewritten g c) = inl c
by_customer (filled e) = inr e

module _ (ts : List Totals) (l : List Allocation) (i : ℕ) (old new : Allocation) (totals : Totalled ts l) (inside : i < length l) (here : get_or l i no_allocation ≡ old) (parties : Replaces old new)
    (generator : new.generator < participants) (customer : new.customer < participants) where
  pending : Column (λ a. a.generator) (λ a. is_pending a.status) l i old new
  pending = column _ _ l i old new inside here (by_generator parties)

  made : Column (λ a. a.generator) (λ a. is_accepted a.status) l i old new
  made = column _ _ l i old new inside here (by_generator parties)

  received : Column (λ a. a.customer) (λ a. is_accepted a.status) l i old new
  received = column _ _ l i old new inside here (by_customer parties)

  -- the two writes, one after the other
  abbrev made_by : Totals
  made_by = generator_after old new (get_or ts new.generator no_totals)

  abbrev one : List Totals
  one = set ts new.generator made_by

  abbrev received_by : Totals
  received_by = customer_after old new (get_or one new.customer no_totals)

  in_table : new.generator < length ts
  in_table = omega (arith, totals.long)

  in_one : new.customer < length one
  in_one = simp length-set (omega (arith, totals.long))

  pub totalled_after : Totalled (totals_after old new ts) (set l i new)
  unfolding totals_after pending_in accepted_in received_in
  totalled_after = record {
    long = simp length-set totals.long;
    pending = λ p h.
        stays (λ s. s.pending.0) one new.customer p received_by in_one refl
        ∙ moves_at (λ s. s.pending.0) ts new.generator p made_by in_table (pends old) (pends new) refl
        ∙ pending.moved p _ (totals.pending p h);
    made = λ p h.
        stays (λ s. s.made.0) one new.customer p received_by in_one refl
        ∙ moves_at (λ s. s.made.0) ts new.generator p made_by in_table (counts old) (counts new) refl
        ∙ made.moved p _ (totals.made p h);
    received = λ p h.
        moves_at (λ s. s.received.0) one new.customer p received_by in_one (counts old) (counts new) refl
        ∙ ap (λ n. cond (eqb new.customer p) (n - counts old + counts new) n) (stays (λ s. s.received.0) ts new.generator p made_by in_table refl)
        ∙ received.moved p _ (totals.received p h);
  }

  in_quantity : (t : Bool) → cond t new.quantity.0 0 ≤ new.quantity.0
  in_quantity true = le_refl new.quantity.0
  in_quantity false = omega arith

  -- and the table has room for the move
  pub totals_move : TotalsFit ts → new.quantity.0 ≤ most_quantity → TotalsMove ts old new
  unfolding pending_in accepted_in received_in
  totals_move fit low =
      let g = fit.low new.generator in
      let c = fit.low new.customer in
      let pends_low = in_quantity (is_pending new.status) in
      let counts_low = in_quantity (is_accepted new.status) in
      record {
        generator = in_table;
        customer = omega (arith, totals.long);
        pending = record { held = rw (totals.pending new.generator generator) pending.room; room = omega (arith, g.pending) };
        made = record { held = rw (totals.made new.generator generator) made.room; room = omega (arith, g.made) };
        received = record { held = rw (totals.received new.customer customer) received.room; room = omega (arith, c.received) };
      }
