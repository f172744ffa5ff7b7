-- Document 01, "Hard-edged cases": the cases marked P, A to I, as one table about the rules (`Table`), proved by computing the rules (`table`).
-- A case that needs a book gets it by steps from the fresh one. Assumes nothing.
use mathlib.Core.Path.{◌≡◌, refl}
use mathlib.Core.List.{List, [], ◌∷◌, map}
use Prim.Native.Nat.{ℕ}
use lib.IntN.{pos, negsuc}
use Rattle.units.specs.declared.Minutes.{Minutes}
use Rattle.record.specs.declared.Step.{Step}
use Rattle.record.specs.declared.Step.TheVariants.{Open, Window, Register, Margin, Create, Terminate, Submit, Accept}
use Rattle.share.specs.Totals as T
use Rattle.share.specs.Shares.{share_of, floors, spare, claim, next, give_one, give}
use Rattle.book.specs.declared.Allocation.{Allocation}
use Rattle.book.specs.declared.Status.TheVariants.{Accepted}
use Rattle.book.specs.Book.{Book, fresh}
use Rattle.book.specs.Words.{tradeable, tradeable_in, exposed_days, margin_of, pending_in, accepted_in, received_in, total, over_days}
use Rattle.book.specs.Reasons.{reason_of, reason2, reason3, reason4, reason5, reason6, in_range, reason8, reason9, reason10, reason11, reason12, reason13, reason14, reason15, some, change, window_open}
use Rattle.book.specs.Cut.{cut, recut}
use Rattle.book.specs.Steps.{book_of, done, written, changed}

-- the book after steps, done or refused one after another
unfoldable pub after : Book → List Step → Book
after b [] = b
after b (s ∷ ss) = after (book_of b s) ss

-- a minute from 8:00 on the month's first day
abbrev pub minute : ℕ → Minutes
minute t = record { 0 = pos t }

-- a month of so many days at a price, with a generator 0 and a customer 1, windows 1 and 2 closing at a minute, and so many credits from day 1
unfoldable pub opening : ℕ → ℕ → ℕ → ℕ → Book
opening days price closing credits =
    after fresh (
    Open days (record { 0 = pos price }) (minute 0) ∷
    Register 0 1 (minute 0) ∷
    Register 1 2 (minute 0) ∷
    Window 5 (record { 0 = pos closing }) (minute 0) ∷
    Window 6 (record { 0 = pos closing }) (minute 0) ∷
    Create 0 1 1 (record { 0 = credits }) (minute 0) ∷ [])

-- generator 0 submits to customer 1
abbrev pub submit : ℕ → ℕ → Step
submit quantity t = Submit 0 1 (record { 0 = quantity }) (minute t)

-- generator 0's margin figure
abbrev pub figure : ℕ → Step
figure cents = Margin 0 (record { 0 = pos cents }) (minute 0)

-- generator 0's accepted allocations of these quantities
abbrev pub accepted_of : List ℕ → List Allocation
accepted_of qs = map (λ q. record { generator = 0; customer = 1; quantity = record { 0 = q }; status = Accepted }) qs

-- the table
pub record Table : Type 0 where
  -- 100,000 of kind 1, D = 30, all terminated from day 16: tradeable 50,000
  pub A : tradeable (after (opening 30 0 0 100000) (Terminate 0 1 16 (record { 0 = 100000 }) (minute 0) ∷ [])) 0 ≡ 50000
  -- 100,000 on day 1 only, D = 31: tradeable 3,225
  pub B : tradeable (after (opening 31 0 0 100000) (Terminate 0 1 2 (record { 0 = 100000 }) (minute 0) ∷ [])) 0 ≡ 3225
  -- minutes -1, 1,439, 1,440: e is 0, 0, 1
  pub C : (exposed_days (negsuc 0) 30 ≡ 0) × ((exposed_days (pos 1439) 30 ≡ 0) × (exposed_days (pos 1440) 30 ≡ 1))
  -- D = 30, P = 1,200,000, e = 15, no other net, SUBMIT 10,000: figure 6,600,000 passes; 6,599,999 answers 13
  pub D_passes : reason_of (after (opening 30 1200000 100000 10000) (figure 6600000 ∷ [])) (submit 10000 21600) ≡ 0
  pub D_answers : reason_of (after (opening 30 1200000 100000 10000) (figure 6599999 ∷ [])) (submit 10000 21600) ≡ 13
  -- 10, 10, 10 cut to 20: 7, 7, 6
  pub E : cut 0 20 (accepted_of (10 ∷ 10 ∷ 10 ∷ [])) ≡ accepted_of (7 ∷ 7 ∷ 6 ∷ [])
  -- 50, 30, 20 cut to 33: 16, 10, 7
  pub F : cut 0 33 (accepted_of (50 ∷ 30 ∷ 20 ∷ [])) ≡ accepted_of (16 ∷ 10 ∷ 7 ∷ [])
  -- 30, 20 cut to 0: 0, 0, both still accepted
  pub G : cut 0 0 (accepted_of (30 ∷ 20 ∷ [])) ≡ accepted_of (0 ∷ 0 ∷ [])
  -- tradeable 50,000, P = 0, nothing else allocated: SUBMIT 50,000 and its ACCEPT both pass; SUBMIT 50,001 answers 12
  pub H_passes : reason_of (opening 30 0 100 50000) (submit 50000 0) ≡ 0
  pub H_accepts : reason_of (after (opening 30 0 100 50000) (submit 50000 0 ∷ [])) (Accept 1 1 (minute 0)) ≡ 0
  pub H_answers : reason_of (opening 30 0 100 50000) (submit 50001 0) ≡ 12
  -- opening 0, closing 100: minute 100 answers 8; minute 99 is open
  pub I_answers : reason_of (opening 30 0 100 50000) (submit 50000 100) ≡ 8
  pub I_open : reason_of (opening 30 0 100 50000) (submit 50000 99) ≡ 0

pub table : Table
unfolding after opening tradeable_in exposed_days margin_of pending_in accepted_in received_in total over_days reason_of reason2 reason3 reason4 reason5 reason6 in_range reason8 reason9 reason10 reason11 reason12 reason13 reason14 reason15 some change window_open cut recut book_of done written changed share_of floors spare claim next give_one give T.total T.largest T.first_largest
table = record {
  A = refl;
  B = refl;
  C = (refl, (refl, refl));
  D_passes = refl;
  D_answers = refl;
  E = refl;
  F = refl;
  G = refl;
  H_passes = refl;
  H_accepts = refl;
  H_answers = refl;
  I_answers = refl;
  I_open = refl;
}
