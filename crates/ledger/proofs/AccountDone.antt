-- What the account room leaves is document 01's step. No reason after the door's applies to its kinds; the participant of a done step has an account; and
-- the net of the totals is the book's. Assumes nothing.
use mathlib.Core.Path.{◌≡◌, refl, sym, ap, ◌∙◌}
use mathlib.Core.List.{List, []}
use Prim.Native.Nat.{ℕ, ◌<◌}
use lib.ListN.{length, get_or, set}
use Rattle.std.specs.Prelude.{None, Ok, Err}
use native.Mathlib.Omega.{arith}
use borrow.Author.Tests.{ltb-true, not-true, not-false}
use Rattle.std.proofs.lemmas.List.{get_or_default}
use Rattle.units.specs.declared.Net.{Net}
use Rattle.record.specs.declared.Step.{Step}
use Rattle.book.specs.declared.Month.{Month}
use Rattle.book.specs.declared.Account.{Account}
use Rattle.book.specs.declared.Allocation.{Allocation}
use Rattle.book.specs.Book.{Book, no_account, participants}
use Rattle.book.specs.Reasons.{early, late, lowest, reason5, in_range, reason12, reason13, reason14, reason15, reason_of}
use Rattle.book.specs.Steps.{at_minute, with_month, with_account, written, done, number_given}
use Rattle.book.proofs.Tests.{parts}
use Rattle.sound.specs.Check.{book_from}
use Rattle.reasons.specs.declared.Reason.{Reason}
use Rattle.reasons.specs.Numbers.{reason_number}
use Rattle.gate.specs.declared.AccountChange.{AccountChange}
use Rattle.gate.specs.declared.AccountChange.TheVariants.{Roles, Requirement, Margin}
use Rattle.gate.specs.declared.AccountStep.{AccountStep}
use Rattle.gate.specs.Rooms.{sets_account, account_step}
use Rattle.gate.specs.Doors.{ByParty}
use Rattle.gate.proofs.Split.{no_later}
use Rattle.sound.specs.declared.made.Totals.{Totals}
use Rattle.ledger.specs.Ready.{Totalled}
use Rattle.ledger.specs.Writing.{account_by, net_in, stepped}
use Rattle.ledger.specs.Rooms.{AccountRoom}
use Rattle.ledger.proofs.Doing.{refuses, does}
use Rattle.ledger.proofs.Passed.{Passed, passed, has_account}

-- ---- all three kinds
module _ (b : Book) (x : AccountStep) where
  abbrev kind_of : AccountChange → Step
  kind_of change = sets_account x.participant change x.at

  none_later : (change : AccountChange) → lowest late b (kind_of change) ≡ 0
  unfolding reason12 reason13 reason14 reason15
  none_later (Roles k) = refl
  none_later (Requirement q) = refl
  none_later (Margin f) = refl

  no_number : (change : AccountChange) → number_given b (kind_of change) ≡ 0
  unfolding number_given
  no_number (Roles k) = refl
  no_number (Requirement q) = refl
  no_number (Margin f) = refl

  done_is : (ts : List Totals) → Totalled ts b.ledger → x.participant < participants → (change : AccountChange)
      → with_month (at_minute x.at) (with_account x.participant (account_by change (net_in ts x.participant)) b) ≡ done b (kind_of change)
  unfolding done written
  done_is ts h l (Roles k) = refl
  done_is ts h l (Requirement q) = refl
  done_is ts h l (Margin f) = rw (h.made x.participant l, h.received x.participant l)

-- ---- the two ways that the room ends
module _ (m : Month) (accounts : List Account) (ts : List Totals) (x : AccountStep) (a : Account) (e-a : a ≡ get_or accounts x.participant no_account) (n : ℕ) (e-n : ByParty m x.participant a.roles (account_step x) n) where
  module _ (lv : List ℕ) (ledger : List Allocation) where
    abbrev book : Book
    book = book_from m accounts lv ledger

    at_door : n ≡ lowest early book (account_step x)
    at_door = e-n book refl (ap (λ (y : Account). y.roles) (sym e-a))

    reason_is : n ≡ reason_of book (account_step x)
    reason_is = no_later book (account_step x) n at_door (none_later book x x.change)

  pub refused : (r : Reason) → reason_number r ≡ n → AccountRoom m accounts ts x (stepped m (Err r)) accounts
  refused r e lv ledger ready = refuses (book lv ledger) (account_step x) r (e ∙ reason_is lv ledger) ts ready.1

  module _ (long : length accounts ≡ participants) (z : 0 ≡ n) where
    -- whoever is let in has an account: it is registered, or in range for REGISTER
    below : (change : AccountChange) → Passed (book [] []) (sets_account x.participant change x.at) → x.participant < participants
    unfolding reason5 in_range
    below (Roles k) h = ltb-true x.participant participants (search parts)
    below (Requirement q) h = omega (arith, has_account accounts x.participant (not-true _ (not-false _ h.no5)))
    below (Margin f) h = omega (arith, has_account accounts x.participant (not-true _ (not-false _ h.no5)))

    pub inside : x.participant < participants
    inside = below x.change (passed (book [] []) (account_step x) (sym (z ∙ at_door [] [])))

    pub altered : {k : Net} → k ≡ net_in ts x.participant → (none a' : Account) → a' ≡ account_by x.change k (get_or accounts x.participant none)
        → AccountRoom m accounts ts x (stepped (at_minute x.at m) (Ok None)) (set accounts x.participant a')
    altered e-k none a' e-a' lv ledger ready =
        let b = book lv ledger in
        let there = get_or_default accounts x.participant none no_account (omega (arith, inside)) in
        does b (account_step x) (z ∙ reason_is lv ledger) (at_minute x.at m) None (rw (e-a', there, e-k) (done_is b x ts ready.1 inside x.change)) (rw (no_number b x x.change)) ready.1
