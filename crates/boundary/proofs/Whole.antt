-- A book's numbers, whole. Its three parts, written one after the other over a list of 1,420 numbers, are that list (`written_whole`); and a list that is
-- readable is had back from the book that it is read as (`back`): each field that passes its test reads as itself. Assumes nothing.
use mathlib.Core.Path.{◌≡◌, refl, sym, ap, ◌∙◌}
use mathlib.Core.Bool.{true, ◌&&◌}
use mathlib.Core.List.{List, [], ◌∷◌, ◌++◌, map, append_assoc}
use Prim.Native.Nat.{ℕ, ◌+◌, ◌*◌}
use native.Mathlib.Nat.{add-zero, add_assoc}
use native.Mathlib.Omega.{arith}
use lib.IntN.{ℤ, pos}
use lib.ListN.{length, length-append, length-map}
use lib.Seq.{sets}
use Rattle.std.specs.List.{flat_map}
use Rattle.units.specs.Capped.{most_thousandths}
use Rattle.book.specs.declared.Month.{Month}
use Rattle.book.specs.declared.Account.{Account}
use Rattle.book.specs.declared.Allocation.{Allocation}
use Rattle.book.specs.Book.{participants, most_given}
use Rattle.book.proofs.Tests.{parts, each_of}
use borrow.Author.Tests.{eqb-true}
use Rattle.boundary.specs.Numbers.{book_places, tabled, month_numbers, account_numbers, allocation_numbers, numbers_of, number_at, account_place, record_place, counted, minutes_in, most_byte, most_number, most_status, month_in, account_at, allocation_at, accounts_in, ledger_in}
use Rattle.boundary.specs.Readable.{fits_to, window_fits, window_reads, month_reads, account_reads, allocation_reads, accounts_read, ledger_reads, readable}
use Rattle.boundary.proofs.Held.{counted_back, counted_low, minute_back, status_back, asked_back}
use Rattle.boundary.proofs.Puts.{sets_append}
use Rattle.boundary.proofs.Runs.{flat_length, sets_all, tabled-add, tabled_all, flat_tabled}

-- a table as the machine holds it is as long as the table
pub table_long : (X Y : Type 0) (f : X → Y) (l : List X) (n : ℕ) → length (map f l) ≡ n → length l ≡ n
table_long X Y f l n h = sym (length-map l f) ∙ h

-- ---- writing
module _ (m : Month) (accounts : List Account) (ledger : List Allocation) (few : length accounts ≡ participants) (many : length ledger ≡ most_given) where
  accounts_long : length (flat_map account_numbers accounts) ≡ 128
  accounts_long = flat_length account_numbers 4 (λ a. refl) accounts ∙ ap (λ n. n * 4) few

  ledger_long : length (flat_map allocation_numbers ledger) ≡ 1280
  ledger_long = flat_length allocation_numbers 5 (λ a. refl) ledger ∙ ap (λ n. n * 5) many

  pub written_whole : (l : List ℤ) → length l ≡ book_places
      → sets (sets (sets l 0 (month_numbers m)) 12 (flat_map account_numbers accounts)) 140 (flat_map allocation_numbers ledger) ≡ numbers_of m accounts ledger
  unfolding numbers_of
  written_whole l e =
      let head = month_numbers m in
      let middle = flat_map account_numbers accounts in
      let end = flat_map allocation_numbers ledger in
      let long : length (head ++ middle) ≡ 140 = length-append head middle ∙ ap (λ n. 12 + n) accounts_long in
      let all : length ((head ++ middle) ++ end) ≡ 1420 = length-append (head ++ middle) end ∙ (λ i. long i + ledger_long i) in
      ap (λ r. sets r 140 end) (sets_append head middle l 0)
      ∙ ap (λ n. sets (sets l 0 (head ++ middle)) n end) (sym long ∙ omega arith)
      ∙ sets_append (head ++ middle) end l 0
      ∙ sets_all ((head ++ middle) ++ end) l (all ∙ sym e)
      ∙ append_assoc head middle end

-- ---- reading back
module _ (ns : List ℤ) where
  pub readable_long : readable ns ≡ true → length ns ≡ book_places
  unfolding readable
  readable_long h = eqb-true (length ns) book_places (search (parts, h))

  month_back : month_reads ns ≡ true → month_numbers (month_in ns) ≡ tabled 12 (number_at ns)
  unfolding month_reads window_fits
  month_back h =
      let late : (window_reads ns 8 && window_reads ns 10) ≡ true = search (parts, h) in
      λ i.
      counted_back most_byte (number_at ns 0) (search (parts, h)) i
      ∷ number_at ns 1
      ∷ minute_back (number_at ns 2) (search (parts, h)) i
      ∷ counted_back most_number (number_at ns 3) (search (parts, h)) i
      ∷ minute_back (number_at ns 4) (search (parts, h)) i
      ∷ minute_back (number_at ns 5) (search (parts, h)) i
      ∷ minute_back (number_at ns 6) (search (parts, h)) i
      ∷ minute_back (number_at ns 7) (search (parts, h)) i
      ∷ minute_back (number_at ns 8) (search (parts, late)) i
      ∷ minute_back (number_at ns 9) (search (parts, late)) i
      ∷ minute_back (number_at ns 10) (search (parts, late)) i
      ∷ minute_back (number_at ns 11) (search (parts, late)) i
      ∷ []

  -- the same numbers, counted from an earlier place
  further : (w from more : ℕ) → tabled w (λ k. number_at ns (from + more + k)) ≡ tabled w (λ k. number_at ns (from + (more + k)))
  further w from more = λ i. tabled w (λ k. number_at ns (add_assoc from more k i))

  account_back : (at : ℕ) → account_reads ns at ≡ true → account_numbers (account_at ns at) ≡ tabled 4 (λ k. number_at ns (at + k))
  unfolding account_reads
  account_back at h = λ i.
      (counted_back most_byte (number_at ns at) (search (parts, h)) ∙ ap (number_at ns) (sym (add-zero at))) i
      ∷ counted_back most_thousandths (number_at ns (at + 1)) (search (parts, h)) i
      ∷ number_at ns (at + 2)
      ∷ number_at ns (at + 3)
      ∷ []

  allocation_back : (at : ℕ) → allocation_reads ns at ≡ true → allocation_numbers (allocation_at ns at) ≡ tabled 5 (λ k. number_at ns (at + k))
  unfolding allocation_reads
  allocation_back at h =
      let status = number_at ns (at + 3) in
      let known : fits_to most_status status ≡ true = search (parts, h) in
      let low = counted_low most_status status known in
      λ i.
      (counted_back most_byte (number_at ns at) (search (parts, h)) ∙ ap (number_at ns) (sym (add-zero at))) i
      ∷ counted_back most_byte (number_at ns (at + 1)) (search (parts, h)) i
      ∷ counted_back most_thousandths (number_at ns (at + 2)) (search (parts, h)) i
      ∷ (ap pos (status_back (counted most_status status) (minutes_in (number_at ns (at + 4))) low) ∙ counted_back most_status status known) i
      ∷ asked_back (counted most_status status) (number_at ns (at + 4)) low (search (parts, h)) i
      ∷ []

  accounts_back : accounts_read ns ≡ true → flat_map account_numbers (accounts_in ns) ≡ tabled 128 (λ k. number_at ns (12 + k))
  unfolding accounts_in accounts_read
  accounts_back h =
      flat_tabled account_numbers (λ p. account_at ns (account_place p)) (λ k. number_at ns (12 + k)) 4 participants
      (λ p o. account_back (account_place p) (each_of participants (λ q. account_reads ns (account_place q)) h p o) ∙ further 4 12 (p * 4))

  ledger_back : ledger_reads ns ≡ true → flat_map allocation_numbers (ledger_in ns) ≡ tabled 1280 (λ k. number_at ns (140 + k))
  unfolding ledger_in ledger_reads
  ledger_back h =
      flat_tabled allocation_numbers (λ i. allocation_at ns (record_place i)) (λ k. number_at ns (140 + k)) 5 most_given
      (λ i o. allocation_back (record_place i) (each_of most_given (λ q. allocation_reads ns (record_place q)) h i o) ∙ further 5 140 (i * 5))

  -- a list that is readable is had back
  pub back : readable ns ≡ true → numbers_of (month_in ns) (accounts_in ns) (ledger_in ns) ≡ ns
  unfolding numbers_of readable
  back h =
      (λ i. month_back (search (parts, h)) i ++ (accounts_back (search (parts, h)) i ++ ledger_back (search (parts, h)) i))
      ∙ ap (λ r. tabled 12 (number_at ns) ++ (tabled 128 (λ k. number_at ns (12 + k)) ++ r)) (further 1280 12 128)
      ∙ ap (λ r. tabled 12 (number_at ns) ++ r) (sym (tabled-add 128 1280 (λ k. number_at ns (12 + k))))
      ∙ sym (tabled-add 12 1408 (number_at ns))
      ∙ tabled_all ns (pos 0) book_places (readable_long h)
