-- A lent book's numbers in parts: what each part says of its own numbers is what the whole list says at the part's place, so that a list of 1,420 numbers is
-- readable where its three parts are (`no_month`, `no_accounts`, `no_ledger`), and is then read as they are (`all_read`). Assumes nothing.
use Rattle.std.proofs.Common.{◌≡◌, ℕ, ◌+◌, ◌*◌, ◌≤◌, ◌<◌, ℤ, pos, Bool, true, false, cond, Some, None, List, length, take, drop, map, refl, sym, ap, ◌∙◌, arith, lit<, length-drop}
use Rattle.std.specs.List.{list_all}
use Rattle.std.specs.Simd.{first_chunks}
use Rattle.std.proofs.lemmas.List.{get_or-take, get_or-drop, drop-drop, take_all}
use Rattle.std.proofs.lemmas.Option.{cond_some, none-some}
use native.Mathlib.Nat.{add-zero}
use borrow.Author.Tests.{eq-eqb, ne_eqb}
use Rattle.book.specs.declared.Month.{Month}
use Rattle.book.specs.declared.Account.{Account}
use Rattle.book.specs.declared.Allocation.{Allocation}
use Rattle.book.specs.declared.Whole.{Whole}
use Rattle.boundary.specs.Numbers.{book_places, account_place, record_place, number_at, month_in, account_at, allocation_at, accounts_in, ledger_in}
use Rattle.boundary.specs.Readable.{month_reads, account_reads, allocation_reads, accounts_read, ledger_reads, readable}
use Rattle.boundary.specs.Inner.{whole_said}
use Rattle.boundary.proofs.Runs.{chunks_map, chunks_all}

-- ---- a part, of which number k is number at + k of the list
abbrev Part : List ℤ → List ℤ → ℕ → ℕ → Type 0
Part ms ns at n = (k : ℕ) → k < n → number_at ms k ≡ number_at ns (at + k)

module _ (ms ns : List ℤ) where
  month_reads_part : Part ms ns 0 12 → month_reads ms ≡ month_reads ns
  unfolding month_reads
  month_reads_part h = cc (h 0 (lit< tt), h 2 (lit< tt), h 3 (lit< tt), h 4 (lit< tt), h 5 (lit< tt), h 6 (lit< tt), h 7 (lit< tt), h 8 (lit< tt), h 9 (lit< tt), h 10 (lit< tt), h 11 (lit< tt))

  month_part : Part ms ns 0 12 → month_in ms ≡ month_in ns
  month_part h = cc (h 1 (lit< tt), h 0 (lit< tt), h 2 (lit< tt), h 3 (lit< tt), h 4 (lit< tt), h 5 (lit< tt), h 6 (lit< tt), h 7 (lit< tt), h 8 (lit< tt), h 9 (lit< tt), h 10 (lit< tt), h 11 (lit< tt))

  module _ (at : ℕ) where
    account_reads_part : Part ms ns at 4 → account_reads ms 0 ≡ account_reads ns at
    unfolding account_reads
    account_reads_part h = cc (h 0 (lit< tt), h 1 (lit< tt), add-zero at)

    account_part : Part ms ns at 4 → account_at ms 0 ≡ account_at ns at
    account_part h = cc (h 0 (lit< tt), h 1 (lit< tt), h 2 (lit< tt), h 3 (lit< tt), add-zero at)

    allocation_reads_part : Part ms ns at 5 → allocation_reads ms 0 ≡ allocation_reads ns at
    unfolding allocation_reads
    allocation_reads_part h = cc (h 0 (lit< tt), h 1 (lit< tt), h 2 (lit< tt), h 3 (lit< tt), h 4 (lit< tt), add-zero at)

    allocation_part : Part ms ns at 5 → allocation_at ms 0 ≡ allocation_at ns at
    allocation_part h = cc (h 0 (lit< tt), h 1 (lit< tt), h 2 (lit< tt), h 3 (lit< tt), h 4 (lit< tt), add-zero at)

-- what a test did not let through
failed : {A : Type 0} (t : Bool) (x : A) → None ≡ cond t (Some x) None → t ≡ false
failed true x e = absurd (none-some x e)
failed false x e = refl

-- a list that is read is readable, and one that is not read is not
module _ (ns : List ℤ) where
  pub was_said : {w : Whole} → Some w ≡ cond (readable ns) (Some (whole_said ns)) None → (readable ns ≡ true) × (w ≡ whole_said ns)
  was_said h = let s = cond_some _ _ _ (sym h) in (s.0, sym s.1)

  pub was_none : None ≡ cond (readable ns) (Some (whole_said ns)) None → readable ns ≡ false
  was_none h = failed _ _ h

-- chunk p of the numbers from a place on
chunk_part : (w p n from : ℕ) (ns : List ℤ) → p * w + w ≤ n → Part (take w (drop (p * w) (take n (drop from ns)))) ns (from + p * w) w
chunk_part w p n from ns b k o =
    let further : from + (p * w + k) ≡ from + p * w + k = omega arith in
    get_or-take w (drop (p * w) (take n (drop from ns))) k (pos 0) o
    ∙ get_or-drop (p * w) (take n (drop from ns)) k (pos 0)
    ∙ get_or-take n (drop from ns) (p * w + k) (pos 0) (omega arith)
    ∙ get_or-drop from ns (p * w + k) (pos 0)
    ∙ ap (number_at ns) further

-- ---- the parts of a list of 1,420 numbers, each as it was cut out
module _ (ns : List ℤ) where
  module _ (head : List ℤ) (e : head ≡ take 12 ns) where
    first : Part head ns 0 12
    first k o = let none : k ≡ 0 + k = omega arith in ap (λ ms. number_at ms k) e ∙ get_or-take 12 ns k (pos 0) o ∙ ap (number_at ns) none

    month_reads_is : month_reads head ≡ month_reads ns
    month_reads_is = month_reads_part head ns first

    month_is : month_in head ≡ month_in ns
    month_is = month_part head ns first

  module _ (accounts : List (List ℤ)) (e : accounts ≡ first_chunks 4 32 (take 128 (drop 12 ns))) where
    account : (p : ℕ) → p < 32 → Part (take 4 (drop (p * 4) (take 128 (drop 12 ns)))) ns (account_place p) 4
    account p o = chunk_part 4 p 128 12 ns (omega arith)

    accounts_read_is : list_all (λ c. account_reads c 0) accounts ≡ accounts_read ns
    unfolding accounts_read
    accounts_read_is =
        ap (list_all (λ c. account_reads c 0)) e
        ∙ chunks_all 4 32 (take 128 (drop 12 ns)) (λ c. account_reads c 0) (λ p. account_reads ns (account_place p)) (λ p o. account_reads_part _ ns (account_place p) (account p o))

    accounts_are : map (λ c. account_at c 0) accounts ≡ accounts_in ns
    unfolding accounts_in
    accounts_are =
        ap (map (λ c. account_at c 0)) e
        ∙ chunks_map 4 32 (take 128 (drop 12 ns)) (λ c. account_at c 0) (λ p. account_at ns (account_place p)) (λ p o. account_part _ ns (account_place p) (account p o))

  module _ (ledger : List (List ℤ)) (e : ledger ≡ first_chunks 5 256 (take 1280 (drop 140 ns))) where
    entry : (i : ℕ) → i < 256 → Part (take 5 (drop (i * 5) (take 1280 (drop 140 ns)))) ns (record_place i) 5
    entry i o = chunk_part 5 i 1280 140 ns (omega arith)

    ledger_reads_is : list_all (λ c. allocation_reads c 0) ledger ≡ ledger_reads ns
    unfolding ledger_reads
    ledger_reads_is =
        ap (list_all (λ c. allocation_reads c 0)) e
        ∙ chunks_all 5 256 (take 1280 (drop 140 ns)) (λ c. allocation_reads c 0) (λ i. allocation_reads ns (record_place i)) (λ i o. allocation_reads_part _ ns (record_place i) (entry i o))

    ledger_is : map (λ c. allocation_at c 0) ledger ≡ ledger_in ns
    unfolding ledger_in
    ledger_is =
        ap (map (λ c. allocation_at c 0)) e
        ∙ chunks_map 5 256 (take 1280 (drop 140 ns)) (λ c. allocation_at c 0) (λ i. allocation_at ns (record_place i)) (λ i o. allocation_part _ ns (record_place i) (entry i o))

-- ---- a part that says none, and all that do
pub wrong_length : (ns : List ℤ) → (length ns ≡ book_places → ⊥) → None ≡ cond (readable ns) (Some (whole_said ns)) None
unfolding readable
wrong_length ns h = rw (ne_eqb (length ns) book_places h)

module _ (ns : List ℤ) (long : length ns ≡ book_places) where
  -- what stands after the month and the accounts
  pub rest : drop 128 (drop 12 ns) ≡ take 1280 (drop 140 ns)
  rest = drop-drop 128 12 ns ∙ sym (take_all 1280 (drop 140 ns) (omega (arith, length-drop 140 ns)))

  module _ (head : List ℤ) (e : head ≡ take 12 ns) where
    pub no_month : None ≡ cond (month_reads head) (Some (month_in head)) None → None ≡ cond (readable ns) (Some (whole_said ns)) None
    unfolding readable
    no_month h = rw (eq-eqb (length ns) book_places long, sym (month_reads_is ns head e) ∙ failed _ _ h)

    module _ (m : Month) (h : Some m ≡ cond (month_reads head) (Some (month_in head)) None) (accounts : List (List ℤ)) (f : accounts ≡ first_chunks 4 32 (take 128 (drop 12 ns))) where
      month_read : (month_reads ns ≡ true) × (m ≡ month_in ns)
      month_read = let s = cond_some _ _ _ (sym h) in (sym (month_reads_is ns head e) ∙ s.0, sym s.1 ∙ month_is ns head e)

      pub no_accounts : None ≡ cond (list_all (λ c. account_reads c 0) accounts) (Some (map (λ c. account_at c 0) accounts)) None
          → None ≡ cond (readable ns) (Some (whole_said ns)) None
      unfolding readable
      no_accounts k = rw (eq-eqb (length ns) book_places long, month_read.0, sym (accounts_read_is ns accounts f) ∙ failed _ _ k)

      module _ (people : List Account) (k : Some people ≡ cond (list_all (λ c. account_reads c 0) accounts) (Some (map (λ c. account_at c 0) accounts)) None)
          (ledger : List (List ℤ)) (g : ledger ≡ first_chunks 5 256 (take 1280 (drop 140 ns))) where
        accounts_were : (accounts_read ns ≡ true) × (people ≡ accounts_in ns)
        accounts_were = let s = cond_some _ _ _ (sym k) in (sym (accounts_read_is ns accounts f) ∙ s.0, sym s.1 ∙ accounts_are ns accounts f)

        pub no_ledger : None ≡ cond (list_all (λ c. allocation_reads c 0) ledger) (Some (map (λ c. allocation_at c 0) ledger)) None
            → None ≡ cond (readable ns) (Some (whole_said ns)) None
        unfolding readable
        no_ledger l = rw (eq-eqb (length ns) book_places long, month_read.0, accounts_were.0, sym (ledger_reads_is ns ledger g) ∙ failed _ _ l)

        pub all_read : (entries : List Allocation) → Some entries ≡ cond (list_all (λ c. allocation_reads c 0) ledger) (Some (map (λ c. allocation_at c 0) ledger)) None
            → Some (record { month = m; accounts = people; ledger = entries }) ≡ cond (readable ns) (Some (whole_said ns)) None
        unfolding readable
        all_read entries l =
            let s = cond_some _ _ _ (sym l) in
            rw (eq-eqb (length ns) book_places long, month_read.0, accounts_were.0, sym (ledger_reads_is ns ledger g) ∙ s.0)
            (λ i. Some (record { month = month_read.1 i; accounts = accounts_were.1 i; ledger = (sym s.1 ∙ ledger_is ns ledger g) i }))
