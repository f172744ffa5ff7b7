-- From what the code works out to document 01. Of a book that was found usable the accounts and the ledger are its own, and where a month is open no total
-- of it is capped, so that each participant's figures and excess, and with them the reason and the list, are the paper's. Assumes nothing.
use mathlib.Core.Path.{◌≡◌, refl, sym, ap, ◌∙◌}
use mathlib.Core.Bool.{Bool, true, false, cond, ◌&&◌, ◌||◌, or-false}
use mathlib.Core.List.{List, [], ◌∷◌, ◌++◌, map}
use Prim.Native.Nat.{ℕ, zero, suc, ◌-◌, ◌≤◌, ◌<◌}
use native.Mathlib.Omega.{arith}
use lib.Dec.{eqb, ltb}
use lib.ListN.{get_or}
use borrow.Author.Tests.{ltb-true, ltb-false, lt-ltb, le-ltb}
use Rattle.std.specs.List.{list_any, range_with_len}
use Rattle.std.proofs.lemmas.List.Folds.{list_any-append}
use Rattle.std.proofs.lemmas.List.FromFn.{map-range_with_len_more}
use native.Mathlib.Numerals.{add-one}
use Rattle.units.proofs.Caps.{capped_fits}
use Rattle.book.specs.Book.{Book, account, is_generator, is_registered, participants}
use Rattle.book.specs.Words.{accepted, received, tradeable, excess}
use Rattle.book.specs.Reasons.{some}
use Rattle.book.specs.Settlement.{credits, figures_of, settled, reason16, settlement_reason, settlement}
use Rattle.book.proofs.Sound.{Opened, opened_of}
use Rattle.book.proofs.Bounds.{accepted_most, received_most, price_most}
use Rattle.credits.specs.Credits.{tradeable_at}
use Rattle.credits.proofs.Sums.{tradeable_in_lem, dsm_in_lem}
use Rattle.sound.specs.declared.test.Checked.{Checked}
use Rattle.sound.specs.declared.made.Totals.{Totals}
use Rattle.sound.specs.Check.{CappedTotals, no_totals}
use Rattle.sound.specs.Checking.{Checks}
use Rattle.sound.proofs.Usable.{usable_accounts, usable_totals}
use Rattle.settlement.specs.Figures.{figures_from, exceeds}
use Rattle.settlement.specs.Listing.{Settleable, figures_at, settled_from, excess_from}

-- one test for another, at each place below n
any_map : (f : ℕ → Bool) (l : List ℕ) → list_any f l ≡ list_any (λ t. t) (map f l)
any_map f [] = refl
any_map f (k ∷ l) = ap (λ t. f k || t) (any_map f l)

some_map : (n : ℕ) (f g : ℕ → Bool) → ((i : ℕ) → i < n → f i ≡ g i) → list_any (λ t. t) (map f (range_with_len 0 n)) ≡ some n g
unfolding some
some_map zero f g h = refl
some_map (suc n) f g h =
    ap (λ k. list_any (λ t. t) (map f (range_with_len 0 k))) (sym (add-one n))
    ∙ ap (list_any (λ t. t)) (map-range_with_len_more f 0 n n (omega arith))
    ∙ list_any-append (λ t. t) (map f (range_with_len 0 n)) (f n ∷ [])
    ∙ (λ i. some_map n f g (λ k o. h k (omega arith)) i || (or-false (f n) ∙ h n (omega arith)) i)

some_any : (n : ℕ) (f g : ℕ → Bool) → ((i : ℕ) → i < n → f i ≡ g i) → list_any f (range_with_len 0 n) ≡ some n g
some_any n f g h = any_map f (range_with_len 0 n) ∙ some_map n f g h

-- what is above is above by something
above_by : (t a : ℕ) → ltb t a ≡ ltb 0 (a - t)
above_by t a = by (ltb t a) refl
  where
    by : (x : Bool) → ltb t a ≡ x → ltb t a ≡ ltb 0 (a - t)
    by true e = e ∙ sym (lt-ltb 0 (a - t) (omega (arith, ltb-true t a e)))
    by false e = e ∙ sym (le-ltb 0 (a - t) (omega (arith, ltb-false t a e)))

-- ---- an open book, with the totals of its ledger
module _ {b : Book} (o : Opened b) (ts : List Totals) (c : CappedTotals ts b.ledger) where
  settleable : Settleable b.month b.levels
  settleable = record { price_low = o.month.price_low; price_most = price_most o; levels_low = λ i l. (o.levels i l).most }

  -- no total is capped
  made_is : (p : ℕ) → p < participants → (get_or ts p no_totals).made.0 ≡ accepted b p
  made_is p l = c.made p l ∙ capped_fits (accepted b p) (omega (arith, accepted_most o p l))

  received_is : (p : ℕ) → p < participants → (get_or ts p no_totals).received.0 ≡ received b p
  received_is p l = c.received p l ∙ capped_fits (received b p) (omega (arith, received_most o p))

  credits_is : (p : ℕ) → tradeable_at b.levels b.month.days p ≡ tradeable b p
  credits_is p = tradeable_in_lem b p o.lengths.levels o.month.most

  -- each participant's figures and excess are the paper's
  figures_is : (p : ℕ) → p < participants → figures_at b.month b.levels b.accounts ts p ≡ figures_of b p
  unfolding figures_from figures_of credits
  figures_is p l = rw (made_is p l, received_is p l, credits_is p, dsm_in_lem b p o.lengths.levels o.month.most)

  exceeds_is : (p : ℕ) → p < participants → exceeds b.month b.levels (account b p) (get_or ts p no_totals).made.0 p ≡ (is_generator (account b p) && ltb 0 (excess b p))
  unfolding exceeds
  exceeds_is p l = rw (made_is p l, credits_is p) (ap (λ t. is_generator (account b p) && t) (above_by (tradeable b p) (accepted b p)))

  -- and so are all of them
  settled_is : (n : ℕ) → n ≤ participants → settled_from b.month b.levels b.accounts ts n ≡ settled b n
  unfolding settled_from settled
  settled_is zero h = refl
  settled_is (suc n) h = λ i. settled_is n (omega arith) i ++ cond (is_registered (account b n)) (figures_is n (omega arith) i ∷ []) []

  excess_is : excess_from b.month b.levels b.accounts ts ≡ reason16 b
  unfolding excess_from reason16
  excess_is = some_any participants _ _ exceeds_is

-- ---- a book that was checked
module _ (b : Book) (found : Checked) (checks : Checks b found) where
  pub unusable : found.usable ≡ false → settlement_reason b ≡ 1
  unfolding settlement_reason
  unusable u = rw (sym checks.usable_is ∙ u)

  module _ (u : found.usable ≡ true) where
    pub not_open : eqb b.month.days 0 ≡ true → settlement_reason b ≡ 2
    unfolding settlement_reason
    not_open h = rw (sym checks.usable_is ∙ u, h)

    module _ (h : eqb b.month.days 0 ≡ false) where
      open_of : Opened b
      open_of = opened_of b (sym checks.usable_is ∙ u) (rw h)

      pub settleable_of : Settleable b.month b.levels
      settleable_of = settleable open_of found.totals (usable_totals b found checks u)

      excess_of : excess_from b.month b.levels found.accounts found.totals ≡ reason16 b
      excess_of = rw (usable_accounts b found checks u) (excess_is open_of found.totals (usable_totals b found checks u))

      pub exceeded : excess_from b.month b.levels found.accounts found.totals ≡ true → settlement_reason b ≡ 16
      unfolding settlement_reason
      exceeded e = rw (sym checks.usable_is ∙ u, h, sym excess_of ∙ e)

      pub unexceeded : excess_from b.month b.levels found.accounts found.totals ≡ false → settlement_reason b ≡ 0
      unfolding settlement_reason
      unexceeded e = rw (sym checks.usable_is ∙ u, h, sym excess_of ∙ e)

      pub list_of : settled_from b.month b.levels found.accounts found.totals participants ≡ settlement b
      unfolding settlement
      list_of = rw (usable_accounts b found checks u) (settled_is open_of found.totals (usable_totals b found checks u) participants (omega arith))
