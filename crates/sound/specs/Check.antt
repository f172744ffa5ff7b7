-- The totals of a ledger, and the test of a lent book as the code makes it, each table whole; `proofs/Fits` shows that it is `sound`. Assumes nothing.
use Rattle.std.specs.Prelude.{Bool, true, cond, not, ◌&&◌, List, ◌≡◌, ℕ, ◌+◌, ◌/◌, ◌<◌, eqb, leb, ltb, length, get_or, set}
use Rattle.std.specs.List.{list_all, fold, enumerate_from}
use Rattle.std.specs.Simd.{first_chunks}
use Rattle.units.specs.declared.Thousandths.{Thousandths}
use Rattle.units.specs.Capped.{capped}
use Rattle.book.specs.declared.Month.{Month}
use Rattle.book.specs.declared.Account.{Account}
use Rattle.book.specs.declared.Allocation.{Allocation}
use Rattle.book.specs.Book.{Book, is_generator, is_customer, no_account, status_number, participants, most_given, most_level, most_quantity, level_places}
use Rattle.book.specs.Words.{total, pending_in, accepted_in, received_in}
use Rattle.book.specs.Sound.{is_no_month, is_no_account, is_no_allocation, month_sound, account_sound}
use Rattle.reasons.specs.Parts.{pends, counts}
use Rattle.sound.specs.declared.made.Totals.{Totals}

-- a book from its four parts
abbrev pub book_from : Month → List Account → List ℕ → List Allocation → Book
book_from m accounts lv ledger = record { month = m; accounts = accounts; levels = lv; ledger = ledger }

-- ---- the totals
abbrev pub no_totals : Totals
no_totals = record { pending = record { 0 = 0 }; made = record { 0 = 0 }; received = record { 0 = 0 } }

-- the totals of any ledger, capped at what a quantity can hold
pub record CappedTotals (ts : List Totals) (ledger : List Allocation) : Type 0 where
  pub long : length ts ≡ participants
  pub pending : (p : ℕ) → p < participants → (get_or ts p no_totals).pending.0 ≡ capped (total (pending_in p) ledger)
  pub made : (p : ℕ) → p < participants → (get_or ts p no_totals).made.0 ≡ capped (total (accepted_in p) ledger)
  pub received : (p : ℕ) → p < participants → (get_or ts p no_totals).received.0 ≡ capped (total (received_in p) ledger)

-- a total with so much more
abbrev pub more : Thousandths → ℕ → Thousandths
more t n = record { 0 = capped (t.0 + n) }

-- what a record adds to the totals of its generator, and of its customer
abbrev pub as_generator : Allocation → Totals → Totals
as_generator l t = record t { pending = more t.pending (pends l); made = more t.made (counts l) }

abbrev pub as_customer : Allocation → Totals → Totals
as_customer l t = record t { received = more t.received (counts l) }

-- to the totals of one participant; nobody past the last one has any
abbrev pub added_to : ℕ → (Totals → Totals) → List Totals → List Totals
added_to p f ts = cond (ltb p participants) (set ts p (f (get_or ts p no_totals))) ts

unfoldable pub added_in : Allocation → List Totals → List Totals
added_in l ts = added_to l.customer (as_customer l) (added_to l.generator (as_generator l) ts)

-- ---- the lengths of the tables
abbrev pub lengths_fit : Book → Bool
lengths_fit b = eqb (length b.accounts) participants && (eqb (length b.levels) level_places && eqb (length b.ledger) most_given)

-- ---- the fresh book
abbrev pub fresh_fits : Book → Bool
fresh_fits b = is_no_month b.month && (list_all is_no_account b.accounts && (list_all (λ l. eqb l 0) b.levels && list_all is_no_allocation b.ledger))

-- ---- a book with a month open
-- the most that a level may be on a day, from 0: nothing after the month's last
abbrev pub most_on : ℕ → ℕ → ℕ
most_on days day = cond (ltb day days) most_level 0

-- the levels of one participant and kind, and those of all, 31 in a row
abbrev pub row_fits : ℕ → List ℕ → Bool
row_fits days row = fold (λ fits p. fits && leb p.1 (most_on days p.0)) true (enumerate_from 0 row)

abbrev pub levels_fit : ℕ → List ℕ → Bool
levels_fit days lv = list_all (row_fits days) (first_chunks 31 (length lv / 31) lv)

-- a record up to the number given, by the accounts of its parties
unfoldable pub given_fits : List Account → Allocation → Bool
given_fits accounts l =
    not (eqb (status_number l.status) 0)
    && (is_generator (get_or accounts l.generator no_account) && (is_customer (get_or accounts l.customer no_account) && leb l.quantity.0 most_quantity))

-- such a record, or a later one
abbrev pub record_fits : ℕ → List Account → ℕ → Allocation → Bool
record_fits given accounts i l = cond (ltb i given) (given_fits accounts l) (is_no_allocation l)

abbrev pub records_fit : ℕ → List Account → List Allocation → Bool
records_fit given accounts ledger = list_all (λ p. record_fits given accounts p.0 p.1) (enumerate_from 0 ledger)

-- what each generator has pending and accepted, by its totals
abbrev pub held_fits : List Totals → Bool
held_fits ts = list_all (λ t. leb (capped (t.pending.0 + t.made.0)) most_quantity) ts

abbrev pub open_fits : Book → List Totals → Bool
open_fits b ts =
    month_sound b.month
    && (list_all account_sound b.accounts && (levels_fit b.month.days b.levels && (records_fit b.month.given b.accounts b.ledger && held_fits ts)))
