-- Document 01, "Readings that would be wrong": for each of the five a line that the rules meet and that reading would not, proved by computing the
-- rules. Assumes nothing.
use mathlib.Core.Path.{◌≡◌, refl}
use mathlib.Core.List.{[], ◌∷◌}
use lib.IntN.{negsuc}
use Rattle.record.specs.declared.Step.{Step}
use Rattle.record.specs.declared.Step.TheVariants.{Requirement, Margin, Accept, Withdraw}
use Rattle.share.specs.Totals as T
use Rattle.share.specs.Shares.{share_of, floors, spare, claim, next, give_one, give}
use Rattle.book.specs.Words.{tradeable_in, exposed_days, margin_of, pending_in, accepted_in, received_in, total, over_days}
use Rattle.book.specs.Reasons.{reason_of, reason2, reason3, reason4, reason5, reason6, in_range, reason8, reason9, reason10, reason11, reason12, reason13, reason14, reason15, some, change, window_open}
use Rattle.book.specs.Cut.{cut, recut}
use Rattle.book.specs.Steps.{book_of, done, written, changed}
use Rattle.book.proofs.Cases.{after, opening, submit, minute, accepted_of}

-- customer 1 accepts allocation 1
abbrev accept : Step
accept = Accept 1 1 (minute 21600)

-- customer 1's margin figure is below zero, with 15 days exposed
abbrev in_debt : Step
in_debt = Margin 1 (record { 0 = negsuc 0 }) (minute 0)

pub record Readings : Type 0 where
  -- counting the accepted submission twice: all tradeable credits submitted, and the submission is accepted
  pub counted_once : reason_of (after (opening 30 0 100000 50000) (submit 50000 0 ∷ [])) accept ≡ 0
  -- testing the customer's margin at acceptance: the customer is in debt, and may accept
  pub customer_not_tested : reason_of (after (opening 30 0 100000 50000) (in_debt ∷ submit 50000 0 ∷ [])) accept ≡ 0
  -- refusing over-allocation: the customer's requirement is 1, and it may accept 50,000
  pub over_allowed : reason_of (after (opening 30 0 100000 50000) (Requirement 1 (record { 0 = 1 }) (minute 0) ∷ submit 50000 0 ∷ [])) accept ≡ 0
  -- rounding each share and giving the difference to the last line would make 17, 10, 6
  pub largest_remainders : cut 0 33 (accepted_of (50 ∷ 30 ∷ 20 ∷ [])) ≡ accepted_of (16 ∷ 10 ∷ 7 ∷ [])
  -- letting a refused step move the clock: a WITHDRAW of nothing at minute 50 is refused, and a SUBMIT at minute 0 is then still in time
  pub clock_kept : reason_of (after (opening 30 0 100000 50000) (Withdraw 0 1 (minute 50) ∷ [])) (submit 50000 0) ≡ 0

pub readings : Readings
unfolding after opening tradeable_in exposed_days margin_of pending_in accepted_in received_in total over_days reason_of reason2 reason3 reason4 reason5 reason6 in_range reason8 reason9 reason10 reason11 reason12 reason13 reason14 reason15 some change window_open cut recut book_of done written changed share_of floors spare claim next give_one give T.total T.largest T.first_largest
readings = record { counted_once = refl; customer_not_tested = refl; over_allowed = refl; largest_remainders = refl; clock_kept = refl }
