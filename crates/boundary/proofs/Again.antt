-- What is written can be lent again. The numbers of a book that code has are readable (`reads_again`), and are read as that book (`same_book`): each number
-- stands where it is looked for, and its field can hold it (`holds`). Assumes nothing.
use mathlib.Core.Path.{◌≡◌, refl, sym, ap, ◌∙◌}
use mathlib.Core.Bool.{true}
use mathlib.Core.List.{List, [], ◌∷◌, ◌++◌}
use Prim.Native.Nat.{ℕ, ◌+◌, ◌*◌, ◌≤◌, ◌<◌}
use native.Mathlib.Omega.{arith}
use lib.Dec.{leb-zero}
use lib.IntN.{ℤ, pos}
use lib.ListN.{length, get_or, length-append, get_or-append}
use lib.Seq.{get_or-append-add}
use Rattle.std.specs.List.{flat_map}
use Rattle.std.proofs.lemmas.List.FromFn.{fill_by_all}
use borrow.Author.Tests.{le-leb, eq-eqb}
use Rattle.units.specs.Capped.{most_thousandths}
use Rattle.book.specs.declared.Window.{Window}
use Rattle.book.specs.declared.Month.{Month}
use Rattle.book.specs.declared.Account.{Account}
use Rattle.book.specs.declared.Allocation.{Allocation}
use Rattle.book.specs.declared.Status.{Status}
use Rattle.book.specs.declared.Status.TheVariants.{Empty, Submitted, Withdrawn, Accepted, ReversalAsked, Reversed}
use Rattle.book.specs.Book.{no_window, no_account, no_allocation, participants, most_given, status_number}
use Rattle.book.proofs.Tests.{both, to_each}
use Rattle.sound.specs.Check.{book_from}
use Rattle.boundary.specs.Numbers.{book_places, account_place, record_place, month_numbers, account_numbers, asked_number, allocation_numbers, numbers_of, number_at, counted, most_byte, most_number, most_status, minutes_in, month_in, account_at, status_of, allocation_at, accounts_in, ledger_in, book_in}
use Rattle.boundary.specs.Readable.{fits_to, fits_minute, window_fits, month_reads, account_reads, asked_reads, allocation_reads, accounts_read, ledger_reads, readable}
use Rattle.boundary.specs.Lent.{Holds}
use Rattle.boundary.specs.Fitting.{WindowFits, BookFits}
use Rattle.boundary.proofs.Held.{minute_back}
use Rattle.boundary.proofs.Runs.{flat_length, flat_at, tabled_all}

-- ---- one number
fits_to_lem : (most n : ℕ) → n ≤ most → fits_to most (pos n) ≡ true
fits_to_lem most n o = both _ _ (leb-zero n) (le-leb n most o)

counted_is : (most n : ℕ) → n ≤ most → counted most (pos n) ≡ n
counted_is most n o = rw (fits_to_lem most n o)

minutes_are : (z : ℤ) → fits_minute z ≡ true → minutes_in z ≡ record { 0 = z }
minutes_are z h = λ i. record { 0 = minute_back z h i }

window_is : (w : Window) → WindowFits w → record { opening = minutes_in w.opening.0; closing = minutes_in w.closing.0 } ≡ w
window_is w h = λ i. record { opening = minutes_are w.opening.0 h.opening_fits i; closing = minutes_are w.closing.0 h.closing_fits i }

-- ---- a status
status_known : (s : Status) → fits_to most_status (pos (status_number s)) ≡ true
status_known Empty = refl
status_known Submitted = refl
status_known Withdrawn = refl
status_known Accepted = refl
status_known (ReversalAsked t) = refl
status_known Reversed = refl

asked_reads_lem : (s : Status) → fits_minute (asked_number s) ≡ true → asked_reads (counted most_status (pos (status_number s))) (asked_number s) ≡ true
asked_reads_lem Empty h = refl
asked_reads_lem Submitted h = refl
asked_reads_lem Withdrawn h = refl
asked_reads_lem Accepted h = refl
asked_reads_lem (ReversalAsked t) h = h
asked_reads_lem Reversed h = refl

status_is : (s : Status) → fits_minute (asked_number s) ≡ true → status_of (counted most_status (pos (status_number s))) (minutes_in (asked_number s)) ≡ s
status_is Empty h = refl
status_is Submitted h = refl
status_is Withdrawn h = refl
status_is Accepted h = refl
status_is (ReversalAsked t) h = ap ReversalAsked (minutes_are t.0 h)
status_is Reversed h = refl

-- ---- the places of a book's numbers
module _ (m : Month) (accounts : List Account) (ledger : List Allocation) (f : BookFits m accounts ledger) where
  abbrev ns : List ℤ
  ns = numbers_of m accounts ledger

  middle_long : length (flat_map account_numbers accounts) ≡ 128
  middle_long = flat_length account_numbers 4 (λ a. refl) accounts ∙ ap (λ n. n * 4) f.accounts_long

  all_long : length ns ≡ book_places
  unfolding numbers_of
  all_long =
      length-append (month_numbers m) (flat_map account_numbers accounts ++ flat_map allocation_numbers ledger)
      ∙ ap (λ n. 12 + n)
      (length-append (flat_map account_numbers accounts) (flat_map allocation_numbers ledger)
      ∙ (λ i. middle_long i + (flat_length allocation_numbers 5 (λ a. refl) ledger ∙ ap (λ n. n * 5) f.ledger_long) i))

  account_number : (p j k : ℕ) → p < participants → j < 4 → k ≡ account_place p + j → number_at ns k ≡ number_at (account_numbers (get_or accounts p no_account)) j
  unfolding numbers_of
  account_number p j k o b e =
      let middle = flat_map account_numbers accounts in
      let place : k ≡ 12 + (p * 4 + j) = omega (arith, e) in
      ap (number_at ns) place
      ∙ get_or-append-add (month_numbers m) (middle ++ flat_map allocation_numbers ledger) (p * 4 + j) (pos 0)
      ∙ get_or-append middle (flat_map allocation_numbers ledger) (pos 0) (p * 4 + j) (omega (arith, middle_long))
      ∙ flat_at account_numbers 4 (λ a. refl) no_account (pos 0) accounts p j (omega (arith, f.accounts_long)) b

  record_number : (i j k : ℕ) → i < most_given → j < 5 → k ≡ record_place i + j → number_at ns k ≡ number_at (allocation_numbers (get_or ledger i no_allocation)) j
  unfolding numbers_of
  record_number i j k o b e =
      let middle = flat_map account_numbers accounts in
      let place : k ≡ 12 + (length middle + (i * 5 + j)) = omega (arith, e, middle_long) in
      ap (number_at ns) place
      ∙ get_or-append-add (month_numbers m) (middle ++ flat_map allocation_numbers ledger) (length middle + (i * 5 + j)) (pos 0)
      ∙ get_or-append-add middle (flat_map allocation_numbers ledger) (i * 5 + j) (pos 0)
      ∙ flat_at allocation_numbers 5 (λ a. refl) no_allocation (pos 0) ledger i j (omega (arith, f.ledger_long)) b

  -- ---- they are readable
  month_reads_lem : month_reads ns ≡ true
  unfolding month_reads window_fits numbers_of
  month_reads_lem =
      let h = f.month_fits in
      both _ _ (fits_to_lem most_byte m.days h.head.days_low)
      (both _ _ h.head.last_fits
      (both _ _ (fits_to_lem most_number m.given h.head.given_low)
      (both _ _ (both _ _ h.first.opening_fits h.first.closing_fits)
      (both _ _ (both _ _ h.second.opening_fits h.second.closing_fits)
      (both _ _ (both _ _ h.third.opening_fits h.third.closing_fits)
      (both _ _ h.fourth.opening_fits h.fourth.closing_fits))))))

  accounts_read_lem : accounts_read ns ≡ true
  unfolding accounts_read account_reads
  accounts_read_lem =
      to_each participants (λ p. account_reads ns (account_place p))
      (λ p o.
      let a = get_or accounts p no_account in
      let h = f.accounts_fit p o in
      both _ _ (ap (fits_to most_byte) (account_number p 0 (account_place p) o (omega arith) (omega arith)) ∙ fits_to_lem most_byte a.roles h.roles_low)
      (ap (fits_to most_thousandths) (account_number p 1 (account_place p + 1) o (omega arith) refl) ∙ fits_to_lem most_thousandths a.requirement.0 h.requirement_low))

  ledger_reads_lem : ledger_reads ns ≡ true
  unfolding ledger_reads allocation_reads
  ledger_reads_lem =
      to_each most_given (λ i. allocation_reads ns (record_place i))
      (λ i o.
      let l = get_or ledger i no_allocation in
      let h = f.ledger_fits i o in
      let status = record_number i 3 (record_place i + 3) o (omega arith) refl in
      both _ _ (ap (fits_to most_byte) (record_number i 0 (record_place i) o (omega arith) (omega arith)) ∙ fits_to_lem most_byte l.generator h.generator_low)
      (both _ _ (ap (fits_to most_byte) (record_number i 1 (record_place i + 1) o (omega arith) refl) ∙ fits_to_lem most_byte l.customer h.customer_low)
      (both _ _ (ap (fits_to most_thousandths) (record_number i 2 (record_place i + 2) o (omega arith) refl) ∙ fits_to_lem most_thousandths l.quantity.0 h.quantity_low)
      (both _ _ (ap (fits_to most_status) status ∙ status_known l.status)
      ((λ k. asked_reads (counted most_status (status k)) (record_number i 4 (record_place i + 4) o (omega arith) refl k)) ∙ asked_reads_lem l.status h.asked_fits)))))

  reads_again : readable ns ≡ true
  unfolding readable
  reads_again = both _ _ (eq-eqb (length ns) book_places all_long) (both _ _ month_reads_lem (both _ _ accounts_read_lem ledger_reads_lem))

  -- ---- and are read as the book
  windows_are : (month_in ns).windows ≡ m.windows
  unfolding numbers_of
  windows_are =
      let h = f.month_fits in
      (λ i. window_is _ h.first i ∷ window_is _ h.second i ∷ window_is _ h.third i ∷ window_is _ h.fourth i ∷ [])
      ∙ tabled_all m.windows no_window 4 f.month_fits.windows_long

  month_is : month_in ns ≡ m
  unfolding numbers_of
  month_is =
      let h = f.month_fits in
      λ i. record {
        days = counted_is most_byte m.days h.head.days_low i;
        price = m.price;
        last = minutes_are m.last.0 h.head.last_fits i;
        given = counted_is most_number m.given h.head.given_low i;
        windows = windows_are i;
      }

  account_is : (p : ℕ) → p < participants → account_at ns (account_place p) ≡ get_or accounts p no_account
  account_is p o =
      let a = get_or accounts p no_account in
      let h = f.accounts_fit p o in
      let roles = ap (counted most_byte) (account_number p 0 (account_place p) o (omega arith) (omega arith)) ∙ counted_is most_byte a.roles h.roles_low in
      let requirement = ap (counted most_thousandths) (account_number p 1 (account_place p + 1) o (omega arith) refl) ∙ counted_is most_thousandths a.requirement.0 h.requirement_low in
      λ i. record {
        roles = roles i;
        requirement = record { 0 = requirement i };
        margin = record {
          figure = record { 0 = account_number p 2 (account_place p + 2) o (omega arith) refl i };
          net = record { 0 = account_number p 3 (account_place p + 3) o (omega arith) refl i };
        };
      }

  record_is : (i : ℕ) → i < most_given → allocation_at ns (record_place i) ≡ get_or ledger i no_allocation
  record_is i o =
      let l = get_or ledger i no_allocation in
      let h = f.ledger_fits i o in
      let generator = ap (counted most_byte) (record_number i 0 (record_place i) o (omega arith) (omega arith)) ∙ counted_is most_byte l.generator h.generator_low in
      let customer = ap (counted most_byte) (record_number i 1 (record_place i + 1) o (omega arith) refl) ∙ counted_is most_byte l.customer h.customer_low in
      let quantity = ap (counted most_thousandths) (record_number i 2 (record_place i + 2) o (omega arith) refl) ∙ counted_is most_thousandths l.quantity.0 h.quantity_low in
      let status =
      (λ k. status_of (counted most_status (record_number i 3 (record_place i + 3) o (omega arith) refl k)) (minutes_in (record_number i 4 (record_place i + 4) o (omega arith) refl k)))
      ∙ status_is l.status h.asked_fits in
      λ k. record { generator = generator k; customer = customer k; quantity = record { 0 = quantity k }; status = status k }

  same_book : (lv : List ℕ) → book_in ns lv ≡ book_from m accounts lv ledger
  unfolding accounts_in ledger_in
  same_book lv = λ k. record {
    month = month_is k;
    accounts = sym (fill_by_all _ accounts participants no_account f.accounts_long (λ p o. sym (account_is p o))) k;
    levels = lv;
    ledger = sym (fill_by_all _ ledger most_given no_allocation f.ledger_long (λ i o. sym (record_is i o))) k;
  }

  -- numbers that were written
  pub holds : {ns' : List ℤ} (lv : List ℕ) → ns' ≡ ns → Holds ns' lv (book_from m accounts lv ledger)
  holds lv e = record { reads = ap readable e ∙ reads_again; is = ap (λ l. book_in l lv) e ∙ same_book lv }
