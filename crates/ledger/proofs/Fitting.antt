-- What a usable book gives the code: its numbers are inside the limits that contracts ask for (`Ready`), its tables are whole, and the capped totals of
-- its ledger are the true ones (`totalled`). Of an open book the facts of `Opened` say so, and the fresh one has zero everywhere. Assumes nothing.
use mathlib.Core.Path.{◌≡◌, refl, sym, ap, subst, ◌∙◌}
use mathlib.Core.Bool.{Bool, true, false, and-false}
use mathlib.Core.List.{List}
use Prim.Native.Nat.{ℕ, ◌≤◌, ◌<◌}
use native.Mathlib.Decide.{dec_lt}
use native.Mathlib.Omega.{arith}
use borrow.Author.Tests.{not-true, not-false}
use lib.ListN.{length, get_or, replicate, get_or-eq_default}
use Rattle.std.proofs.lemmas.List.{get_or_past}
use Rattle.units.proofs.Caps.{capped_fits}
use Rattle.book.specs.declared.Allocation.{Allocation}
use Rattle.book.specs.Book.{Book, fresh, account, is_open, no_account, no_allocation, participants, most_given, most_quantity, most_net, level_places}
use Rattle.book.specs.Words.{pending_in, accepted_in, received_in, total}
use Rattle.book.specs.Reasons.{not_registered}
use Rattle.book.specs.Run.{usable}
use Rattle.book.proofs.Tables.{blank}
use Rattle.book.proofs.Sums.{total_none}
use Rattle.book.proofs.Sound.{Opened, opened_of, fresh_of, fresh_lengths}
use Rattle.book.proofs.Bounds.{pending_most, accepted_most, received_most, price_most, generator_below, customer_below}
use Rattle.sound.specs.declared.made.Totals.{Totals}
use Rattle.ledger.proofs.Passed.{has_account}
use Rattle.ledger.specs.Ready.{LevelsFit, SumsFit, TotalsFit, Totalled, MonthFits, AccountFits}
use Rattle.sound.specs.Check.{no_totals, CappedTotals}

-- what holds of every open book and of the fresh one
pub by_kind : (P : Book → Type 0) → ((b : Book) → Opened b → P b) → P fresh → (b : Book) → usable b ≡ true → P b
by_kind P opened none b u = by (is_open b) refl
  where
    by : (t : Bool) → is_open b ≡ t → P b
    by true o = opened b (opened_of b u o)
    by false n = subst P (sym (fresh_of b u n)) none

-- ---- month, levels, accounts and records
pub month_fits_lem : (b : Book) → usable b ≡ true → MonthFits b.month
month_fits_lem = by_kind (λ b. MonthFits b.month) (λ b o. record { days = o.month.most; price = price_most o }) (record { days = omega arith; price = omega arith })

pub levels_fit_lem : (b : Book) → usable b ≡ true → LevelsFit b.levels
levels_fit_lem =
    by_kind (λ b. LevelsFit b.levels)
    (λ b o. record { long = o.lengths.levels; low = λ i l. (o.levels i l).most })
    (record { long = fresh_lengths.levels; low = λ i _. omega (arith, blank {A = ℕ} level_places i 0) })

-- of a participant, and past the last one
no_account_lem : AccountFits no_account
no_account_lem = record { figure = omega arith; net = omega arith }

pub account_fits_lem : (b : Book) → usable b ≡ true → (p : ℕ) → AccountFits (account b p)
account_fits_lem = by_kind (λ b. (p : ℕ) → AccountFits (account b p)) (λ b o p. by b o p (dec_lt p participants)) (λ p. subst AccountFits (sym (blank participants p no_account)) no_account_lem)
  where
    by : (b : Book) → Opened b → (p : ℕ) → Dec (p < participants) → AccountFits (account b p)
    by b o p (yes l) = record { figure = (o.accounts p l).figure; net = (o.accounts p l).net }
    by b o p (no l) = subst AccountFits (sym (get_or-eq_default b.accounts no_account (omega (arith, o.lengths.accounts)))) no_account_lem

-- up to the number given, and later
pub quantity_low : (b : Book) → usable b ≡ true → (i : ℕ) → (get_or b.ledger i no_allocation).quantity.0 ≤ most_quantity
quantity_low =
    by_kind (λ b. (i : ℕ) → (get_or b.ledger i no_allocation).quantity.0 ≤ most_quantity)
    (λ b o i. by b o i (dec_lt i b.month.given))
    (λ i. rw (blank most_given i no_allocation) (omega arith))
  where
    by : (b : Book) → Opened b → (i : ℕ) → Dec (i < b.month.given) → (get_or b.ledger i no_allocation).quantity.0 ≤ most_quantity
    by b o i (yes l) = (o.given i l).quantity
    by b o i (no l) = rw (o.later i (omega arith)) (omega arith)

-- ---- totals
record LowTotals (b : Book) : Type 0 where
  pending : (p : ℕ) → p < participants → total (pending_in p) b.ledger ≤ most_net
  made : (p : ℕ) → p < participants → total (accepted_in p) b.ledger ≤ most_net
  received : (p : ℕ) → p < participants → total (received_in p) b.ledger ≤ most_net

-- an empty record adds nothing
fresh-total : (f : Allocation → ℕ) → f no_allocation ≡ 0 → total f fresh.ledger ≤ most_net
fresh-total f e = omega (arith, total_none f no_allocation (replicate most_given no_allocation) (λ i _. ap f (blank most_given i no_allocation) ∙ e))

low_totals : (b : Book) → usable b ≡ true → LowTotals b
unfolding pending_in accepted_in received_in
low_totals =
    by_kind LowTotals
    (λ b o. record { pending = λ p l. omega (arith, pending_most o p l); made = λ p l. omega (arith, accepted_most o p l); received = λ p _. received_most o p })
    (record {
      pending = λ p _. fresh-total (pending_in p) (rw and-false);
      made = λ p _. fresh-total (accepted_in p) (rw and-false);
      received = λ p _. fresh-total (received_in p) (rw and-false);
    })

-- no total of a usable book is capped
pub totalled : (b : Book) (ts : List Totals) → usable b ≡ true → CappedTotals ts b.ledger → Totalled ts b.ledger
totalled b ts u c =
    let low = low_totals b u in
    record {
      long = c.long;
      pending = λ p l. c.pending p l ∙ capped_fits (total (pending_in p) b.ledger) (omega (arith, low.pending p l));
      made = λ p l. c.made p l ∙ capped_fits (total (accepted_in p) b.ledger) (omega (arith, low.made p l));
      received = λ p l. c.received p l ∙ capped_fits (total (received_in p) b.ledger) (omega (arith, low.received p l));
    }

pub totals_fit : (b : Book) (ts : List Totals) → usable b ≡ true → Totalled ts b.ledger → TotalsFit ts
totals_fit b ts u t = record { long = t.long; low = λ p. by p (dec_lt p participants) }
  where
    low : LowTotals b
    low = low_totals b u

    -- past the last participant there are none
    by : (p : ℕ) → Dec (p < participants) → SumsFit (get_or ts p no_totals)
    by p (yes l) = record {
      pending = omega (arith, t.pending p l, low.pending p l);
      made = omega (arith, t.made p l, low.made p l);
      received = omega (arith, t.received p l, low.received p l);
    }
    by p (no l) = rw (get_or_past ts p no_totals (omega (arith, t.long))) (record { pending = omega arith; made = omega arith; received = omega arith })

-- ---- the tables, and the parties of every record
pub accounts_long : (b : Book) → usable b ≡ true → length b.accounts ≡ participants
accounts_long = by_kind (λ b. length b.accounts ≡ participants) (λ b o. o.lengths.accounts) fresh_lengths.accounts

pub ledger_long : (b : Book) → usable b ≡ true → length b.ledger ≡ most_given
ledger_long = by_kind (λ b. length b.ledger ≡ most_given) (λ b o. o.lengths.ledger) fresh_lengths.ledger

abbrev pub Parties : Allocation → Type 0
Parties a = (a.generator < participants) × (a.customer < participants)

pub parties : (b : Book) → usable b ≡ true → (i : ℕ) → Parties (get_or b.ledger i no_allocation)
parties = by_kind (λ b. (i : ℕ) → Parties (get_or b.ledger i no_allocation)) (λ b o i. by b o i (dec_lt i b.month.given)) (λ i. rw (blank most_given i no_allocation) none)
  where
    none : Parties no_allocation
    none = (omega arith, omega arith)

    by : (b : Book) → Opened b → (i : ℕ) → Dec (i < b.month.given) → Parties (get_or b.ledger i no_allocation)
    by b o i (yes l) = (generator_below o (o.given i l), customer_below o (o.given i l))
    by b o i (no l) = rw (o.later i (omega arith)) none

-- each number that was given has a record
pub few_given : (b : Book) → usable b ≡ true → b.month.given ≤ most_given
few_given = by_kind (λ b. b.month.given ≤ most_given) (λ b o. o.month.given) (omega arith)

-- the next record is empty
pub next_empty : (b : Book) → usable b ≡ true → get_or b.ledger b.month.given no_allocation ≡ no_allocation
next_empty = by_kind (λ b. get_or b.ledger b.month.given no_allocation ≡ no_allocation) (λ b o. o.later b.month.given (omega arith)) (blank most_given 0 no_allocation)

-- who is registered has an account
pub registered_below : (b : Book) → usable b ≡ true → (p : ℕ) → not_registered b p ≡ false → p < participants
registered_below b u p e = omega (arith, has_account b.accounts p (not-true _ (not-false _ e)), accounts_long b u)
