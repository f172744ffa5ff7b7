-- What a step that alters one allocation reads of a book is the book's: the roles of its parties and the record that it names. Where it is let in, the
-- participant that it is judged by has an account, and stands as the book has it, so that its reason is the first of those that are left (`judged`).
-- Assumes nothing.
use mathlib.Core.Path.{◌≡◌, refl, sym, ap, ◌∙◌}
use mathlib.Core.Bool.{true, false, true≢false}
use mathlib.Core.List.{List}
use Prim.Native.Nat.{ℕ, ◌<◌}
use lib.ListN.{get_or}
use borrow.Author.Tests.{leb-true}
use Rattle.units.specs.declared.Minutes.{Minutes}
use Rattle.book.specs.declared.Account.{Account}
use Rattle.book.specs.declared.Allocation.{Allocation}
use Rattle.book.specs.Book.{Book, account, allocation, no_allocation, participants, most_quantity}
use Rattle.book.specs.Reasons.{not_registered, not_given, early, lowest, reason5, in_range, reason_of}
use Rattle.book.specs.Run.{usable}
use Rattle.book.proofs.Tests.{neither, parts}
use Rattle.gate.specs.declared.Trade.{Trade}
use Rattle.gate.specs.declared.Trade.TheVariants.{Submit, Accept, AgreeReversal}
use Rattle.gate.specs.declared.AllocationStep.{AllocationStep}
use Rattle.gate.specs.Rooms.{trades, allocation_step}
use Rattle.gate.specs.Doors.{customer_in, number_in, ByTrade}
use Rattle.gate.proofs.Split.{let_in}
use Rattle.sound.specs.declared.made.Totals.{Totals}
use Rattle.ledger.specs.declared.standing.Standing.{Standing}
use Rattle.ledger.specs.Ready.{Ready}
use Rattle.ledger.specs.Judging.{place_of, judged_by, named, QuantityFits, LateFits, StandsAt, late_by}
use Rattle.ledger.proofs.Fitting.{quantity_low, Parties, parties as record_parties, registered_below}
use Rattle.ledger.proofs.TradeLate.{StandsIn, late_is}
use Rattle.ledger.proofs.Passed.{Passed, passed}

-- the record of the number that is named
placed : (b : Book) (y : Trade) → not_given b (number_in y) ≡ false → allocation b (number_in y) ≡ get_or b.ledger (place_of b.month y) no_allocation
placed b (Submit c q) e = absurd (true≢false e)
placed b _ e = refl

module _ (b : Book) (u : usable b ≡ true) (p : ℕ) (t : Minutes) where
  -- a step that is let in: its party is registered, and its number was given
  known : (y : Trade) → Passed b (trades p y t) → (not_registered b p ≡ false) × (named y ≡ true → not_given b (number_in y) ≡ false)
  unfolding reason5
  known (Submit c q) h = ((neither (not_registered b p) _ h.no5).0, λ z. absurd (true≢false (sym z)))
  known _ h = let k = neither (not_registered b p) _ h.no5 in (k.0, λ _. k.1)

  -- whoever it may be judged by has an account
  judged_below : (y : Trade) (l : Allocation) → Parties l → p < participants → judged_by p y l < participants
  judged_below (Accept n) l of below = of.0
  judged_below (AgreeReversal n) l of below = of.1
  judged_below _ l of below = below

  -- its quantity is inside its limit, and there is a number left for it
  quantity_fits : (y : Trade) → Passed b (trades p y t) → QuantityFits y
  unfolding in_range
  quantity_fits (Submit c q) h = let ok = h.no7 in leb-true q.0 most_quantity (search parts)
  quantity_fits _ h = tt

module _ (b : Book) (ts : List Totals) (ready : Ready b ts) (x : AllocationStep) {i : ℕ} {here : Allocation} (is_place : i ≡ place_of b.month x.trade) (is_here : here ≡ get_or b.ledger i no_allocation) where
  pub at_place : here ≡ get_or b.ledger (place_of b.month x.trade) no_allocation
  at_place = rw (← is_place) is_here

  abbrev who : ℕ
  who = judged_by x.party x.trade here

  here_is : not_given b (number_in x.trade) ≡ false → allocation b (number_in x.trade) ≡ here
  here_is e = placed b x.trade e ∙ sym at_place

  -- at the door
  pub door : {n c : ℕ} {a a' : Account} → a ≡ account b x.party → c ≡ customer_in x.trade → a' ≡ account b c → ByTrade b.month a.roles a'.roles here x n → n ≡ lowest early b (allocation_step x)
  door is_a is_c is_a' h = h b refl (sym (ap (λ (y : Account). y.roles) is_a)) (λ _. sym (ap (λ (y : Account). y.roles) (is_a' ∙ ap (account b) is_c))) here_is

  -- let in
  module _ (none : 0 ≡ lowest early b (allocation_step x)) where
    let_in_passed : Passed b (allocation_step x)
    let_in_passed = passed b (allocation_step x) (sym none)

    known_here : (not_registered b x.party ≡ false) × (named x.trade ≡ true → not_given b (number_in x.trade) ≡ false)
    known_here = known b ready.0 x.party x.at x.trade let_in_passed

    pub late_fits : LateFits here x.trade
    late_fits = record { low = rw at_place (quantity_low b ready.0 _); quantity = quantity_fits b ready.0 x.party x.at x.trade let_in_passed }

    below : who < participants
    below = judged_below b ready.0 x.party x.at x.trade here (rw at_place (record_parties b ready.0 _)) (registered_below b ready.0 x.party known_here.0)

    stands_in : {s : Standing} → StandsAt b.month b.accounts b.levels ts who s → StandsIn b s here x.party x.trade
    stands_in y = record {
      month = sym y.month_is;
      levels_are = sym y.levels_are;
      here_is = λ z. here_is (known_here.1 z);
      judged = sym y.account_is;
      pending_is = rw y.totals_are (sym (ready.1.pending who below));
      made = rw y.totals_are (sym (ready.1.made who below));
      received_is = rw y.totals_are (sym (ready.1.received who below));
    }

    pub judged : {s : Standing} {p n : ℕ} → p ≡ who → StandsAt b.month b.accounts b.levels ts p s → n ≡ late_by s here x.party x.at x.trade → n ≡ reason_of b (allocation_step x)
    judged {s} is_who y e = e ∙ late_is b s here x.party x.at x.trade (stands_in (rw is_who at y)) ∙ let_in b (allocation_step x) 0 none refl
