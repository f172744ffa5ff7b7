-- What the rooms read of a book to judge a step: the levels and the totals, the place of the allocation, and how the participant that the step is judged by
-- stands, with the reasons that go by it. Assumes nothing.
use Rattle.std.specs.Prelude.{◌≡◌, Bool, true, false, cond, ◌||◌, List, ℕ, ◌+◌, ◌-◌, ◌≤◌, ◌<◌, eqb, leb, ltb, ℤ, pos, ◌-ℤ◌, get_or}
use Rattle.std.specs.Int.Signed.{lt_z}
use Rattle.units.specs.declared.Minutes.{Minutes}
use Rattle.book.specs.declared.Month.{Month}
use Rattle.book.specs.declared.Account.{Account}
use Rattle.book.specs.declared.Allocation.{Allocation}
use Rattle.book.specs.Book.{Book, account, no_account, most_given, most_level, most_quantity}
use Rattle.book.specs.Words.{tradeable_in, margin_of}
use Rattle.book.specs.Reasons.{some, change, early, lowest}
use Rattle.reasons.specs.Chain.{when, first}
use Rattle.gate.specs.declared.Trade.{Trade}
use Rattle.gate.specs.declared.Trade.TheVariants.{Submit, Accept, AgreeReversal, Amend}
use Rattle.gate.specs.declared.CutStep.{CutStep}
use Rattle.gate.specs.Rooms.{cut_step}
use Rattle.gate.specs.Doors.{number_in}
use Rattle.sound.specs.declared.made.Totals.{Totals}
use Rattle.sound.specs.Check.{book_from, no_totals}
use Rattle.ledger.specs.declared.standing.Standing.{Standing}
use Rattle.ledger.specs.Ready.{Ready}
use Rattle.ledger.specs.Writing.{allocation_by}

-- ---- levels
-- a level that a CREATE of q would pass, or that a TERMINATE of q takes more than
abbrev pub blocks : Bool → ℕ → ℕ → Bool
blocks creates q l = cond creates (ltb most_level (l + q)) (ltb l q)

-- some level from a place on, n of them, is in the way
unfoldable pub blocked_in : Bool → ℕ → List ℕ → ℕ → ℕ → Bool
blocked_in creates q lv from n = some n (λ k. blocks creates q (get_or lv (from + k) 0))

-- ---- totals
-- those of a participant; past the last one there are none
abbrev pub totals_at : List Totals → ℕ → Totals
totals_at ts p = get_or ts p no_totals

abbrev pub net_of : Totals → ℤ
net_of s = pos s.received.0 -ℤ pos s.made.0

-- ---- one allocation
-- the place in the ledger that a step reads and writes: the next one for SUBMIT, else that of the number it names
abbrev pub place_of : Month → Trade → ℕ
place_of m (Submit c q) = m.given
place_of m y = number_in y - 1

-- whose credits, totals and margin a step is judged by: A, but the generator at ACCEPT and the customer at AGREE REVERSAL
abbrev pub judged_by : ℕ → Trade → Allocation → ℕ
judged_by p (Accept n) l = l.generator
judged_by p (AgreeReversal n) l = l.customer
judged_by p _ l = p

-- the step names an allocation: all but SUBMIT
abbrev pub named : Trade → Bool
named (Submit c q) = false
named _ = true

-- a quantity that is submitted is inside its limit, and there is a number for it
abbrev pub QuantityFits : Trade → Type 0
QuantityFits (Submit c q) = q.0 ≤ most_quantity
QuantityFits _ = Unit {0}

abbrev pub NumberLeft : Month → Trade → Type 0
NumberLeft m (Submit c q) = m.given < most_given
NumberLeft m _ = Unit {0}

-- ---- how a participant stands
-- these are parts of a book that may be used, with these totals
pub record PartsOf (m : Month) (accounts : List Account) (lv : List ℕ) (ts : List Totals) : Type 0 where
  pub ledger : List Allocation
  pub ready : Ready (book_from m accounts lv ledger) ts

-- as they have it
pub record StandsAt (m : Month) (accounts : List Account) (lv : List ℕ) (ts : List Totals) (p : ℕ) (s : Standing) : Type 0 where
  pub month_is : s.month ≡ m
  pub levels_are : s.levels.now ≡ lv
  pub account_is : s.account ≡ get_or accounts p no_account
  pub totals_are : s.totals ≡ totals_at ts p

-- ---- reasons 12, 13 and 15, from how the participant that a step is judged by stands
-- 12 where a participant needs so many credits
abbrev pub credits_late : Standing → ℕ → ℕ → ℕ
credits_late s p needed = when (ltb (tradeable_in s.levels.now s.month.days p) needed) 12

-- 13 for what a record changes
abbrev pub margin_late : Standing → Allocation → Minutes → ℕ
margin_late s l t = when (lt_z (margin_of s.month s.account (net_of s.totals) t (change l.generator l.customer l.quantity.0)) (pos 0)) 13

-- 15 for a change from one quantity to another
abbrev pub amend_late : Standing → ℕ → ℕ → ℕ → ℕ
amend_late s p old new = when (leb old new || ltb (s.totals.made.0 - tradeable_in s.levels.now s.month.days p) (old - new)) 15

-- by kind, with the record at hand
unfoldable pub late_by : Standing → Allocation → ℕ → Minutes → Trade → ℕ
late_by s l p t (Submit c q) = first (credits_late s p (q.0 + s.totals.pending.0 + s.totals.made.0)) (margin_late s (allocation_by p t (Submit c q) l) t)
late_by s l p t (Accept n) = first (credits_late s l.generator (s.totals.pending.0 + s.totals.made.0)) (margin_late s l t)
late_by s l p t (AgreeReversal n) = margin_late s l t
late_by s l p t (Amend n q) = amend_late s p l.quantity.0 q.0
late_by s l p t _ = 0

-- what they rest on beside
pub record LateFits (here : Allocation) (y : Trade) : Type 0 where
  pub low : here.quantity.0 ≤ most_quantity
  pub quantity : QuantityFits y

-- r is the reason of OPERATOR AMENDS at the door, or 15 for so many credits, on every book with this month and these roles of its generator
abbrev pub JudgedCut : Standing → ℕ → CutStep → ℕ → Type 0
JudgedCut s credits x r =
    (b : Book) → b.month ≡ s.month → (account b x.generator).roles ≡ s.account.roles → r ≡ first (lowest early b (cut_step x)) (when (eqb (s.totals.made.0 - credits) 0) 15)
