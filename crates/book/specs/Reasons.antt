-- Document 01, "Reasons for refusal": for each reason when it applies to a step on a book, in the order of the table, and the answer, the lowest
-- number that applies. Reason 1 is about bytes, tables and sound books (`Run`), and 16 about settlement (`Settlement`). Assumes nothing.
use Rattle.std.specs.Prelude.{Bool, true, false, cond, not, ◌&&◌, ◌||◌, List, [], ◌∷◌, ◌++◌, ℕ, zero, suc, ◌+◌, ◌-◌, eqb, leb, ltb, ℤ, pos, neg_ℤ, get_or}
use Rattle.std.specs.Int.Signed.{le_z, lt_z}
use Rattle.units.specs.declared.Minutes.{Minutes}
use Rattle.record.specs.declared.Step.{Step}
use Rattle.record.specs.declared.Step.TheVariants.{Open, Window, Register, Requirement, Margin, Create, Terminate, Submit, Withdraw, Accept, AskReversal, AgreeReversal, GeneratorAmends, OperatorAmends}
use Rattle.book.specs.declared.Month.{Month}
use Rattle.book.specs.declared.Allocation.{Allocation}
use Rattle.book.specs.Book.{Book, account, allocation, within, status_number, SUBMITTED, WITHDRAWN, ACCEPTED, REVERSAL_ASKED, is_open, is_generator, is_customer, is_registered, no_window, participants, most_given, fewest_days, most_days, most_price, most_level, most_quantity, most_figure, most_end}
use Rattle.book.specs.Words.{pending, accepted, tradeable, excess, level, margin_fails}
use Rattle.book.specs.Kinds.{is, time_of, OPEN}

-- ---- what the tests speak of
-- what stands at an allocation number
abbrev pub generator_at : Book → ℕ → ℕ
generator_at b n = (allocation b n).generator

abbrev pub customer_at : Book → ℕ → ℕ
customer_at b n = (allocation b n).customer

abbrev pub quantity_at : Book → ℕ → ℕ
quantity_at b n = (allocation b n).quantity.0

-- a window, 1 SUBMIT, 2 ACCEPT, 3 WITHDRAW, 4 both reversal steps, is open when opening ≤ t < closing
unfoldable pub window_open : Month → ℕ → Minutes → Bool
window_open m k t = le_z (get_or m.windows (k - 1) no_window).opening.0 t.0 && lt_z t.0 (get_or m.windows (k - 1) no_window).closing.0

-- an allocation has the status of that number
abbrev pub has : ℕ → Allocation → Bool
has k a = eqb (status_number a.status) k

-- a number from one bound to another
abbrev pub from_to : ℕ → ℕ → ℕ → Bool
from_to low high n = leb low n && leb n high

-- the change c in net: minus the quantity, and 0 where generator and customer are the same participant
unfoldable pub change : ℕ → ℕ → ℕ → ℤ
change generator customer quantity = cond (eqb generator customer) (pos 0) (neg_ℤ (pos quantity))

abbrev pub change_at : Book → ℕ → ℤ
change_at b n = change (generator_at b n) (customer_at b n) (quantity_at b n)

-- f holds at some place below n
unfoldable pub some : ℕ → (ℕ → Bool) → Bool
some zero f = false
some (suc n) f = some n f || f n

-- some level of a participant and kind, from a day to D, for which f holds
abbrev pub some_level : Book → ℕ → ℕ → ℕ → (ℕ → Bool) → Bool
some_level b p kind day f = some (b.month.days + 1 - day) (λ k. f (level b p kind (day + k)))

-- ---- the table
-- 2: no month open (kinds 2 to 14)
unfoldable pub reason2 : Book → Step → Bool
reason2 b s = cond (is OPEN s) false (not (is_open b))

-- 3: month already open (OPEN); A already registered (REGISTER)
unfoldable pub reason3 : Book → Step → Bool
reason3 b (Open d p t) = is_open b
reason3 b (Window s e t) = false
reason3 b (Register a r t) = is_registered (account b a)
reason3 b (Requirement a q t) = false
reason3 b (Margin a f t) = false
reason3 b (Create a k d q t) = false
reason3 b (Terminate a k d q t) = false
reason3 b (Submit a c q t) = false
reason3 b (Withdraw a n t) = false
reason3 b (Accept a n t) = false
reason3 b (AskReversal a n t) = false
reason3 b (AgreeReversal a n t) = false
reason3 b (GeneratorAmends a n q t) = false
reason3 b (OperatorAmends a t) = false

-- 4: minute below the last step's (not OPEN)
unfoldable pub reason4 : Book → Step → Bool
reason4 b s = cond (is OPEN s) false (lt_z (time_of s).0 b.month.last.0)

-- 5: a participant given in A or B not registered (REGISTER's A excepted; unused fields name nobody); allocation number not given
abbrev pub not_registered : Book → ℕ → Bool
not_registered b p = not (is_registered (account b p))

abbrev pub not_given : Book → ℕ → Bool
not_given b n = eqb n 0 || ltb b.month.given n

unfoldable pub reason5 : Book → Step → Bool
reason5 b (Open d p t) = false
reason5 b (Window s e t) = false
reason5 b (Register a r t) = false
reason5 b (Requirement a q t) = not_registered b a
reason5 b (Margin a f t) = not_registered b a
reason5 b (Create a k d q t) = not_registered b a
reason5 b (Terminate a k d q t) = not_registered b a
reason5 b (Submit a c q t) = not_registered b a || not_registered b c
reason5 b (Withdraw a n t) = not_registered b a || not_given b n
reason5 b (Accept a n t) = not_registered b a || not_given b n
reason5 b (AskReversal a n t) = not_registered b a || not_given b n
reason5 b (AgreeReversal a n t) = not_registered b a || not_given b n
reason5 b (GeneratorAmends a n q t) = not_registered b a || not_given b n
reason5 b (OperatorAmends a t) = not_registered b a

-- 6: wrong role, or A not the named party of that allocation. CREATE and TERMINATE need a generator for kinds 1 to 3 only
unfoldable pub reason6 : Book → Step → Bool
reason6 b (Open d p t) = false
reason6 b (Window s e t) = false
reason6 b (Register a r t) = false
reason6 b (Requirement a q t) = not (is_customer (account b a))
reason6 b (Margin a f t) = false
reason6 b (Create a k d q t) = from_to 1 3 k && not (is_generator (account b a))
reason6 b (Terminate a k d q t) = from_to 1 3 k && not (is_generator (account b a))
reason6 b (Submit a c q t) = not (is_generator (account b a)) || not (is_customer (account b c))
reason6 b (Withdraw a n t) = not (eqb (generator_at b n) a)
reason6 b (Accept a n t) = not (eqb (customer_at b n) a)
reason6 b (AskReversal a n t) = not (eqb (generator_at b n) a)
reason6 b (AgreeReversal a n t) = not (eqb (customer_at b n) a)
reason6 b (GeneratorAmends a n q t) = not (eqb (generator_at b n) a)
reason6 b (OperatorAmends a t) = not (is_generator (account b a))

-- 7: number outside its range ("Ranges")
unfoldable pub in_range : Book → Step → Bool
in_range b (Open d p t) = from_to fewest_days most_days d && (le_z (pos 0) p.0 && le_z p.0 (pos most_price))
in_range b (Window s e t) = from_to 1 8 s && within most_end e.0
in_range b (Register a r t) = ltb a participants && from_to 1 3 r
in_range b (Requirement a q t) = leb q.0 most_quantity
in_range b (Margin a f t) = within most_figure f.0
in_range b (Create a k d q t) = from_to 1 4 k && (from_to 1 b.month.days d && from_to 1 most_level q.0)
in_range b (Terminate a k d q t) = from_to 1 4 k && (from_to 1 b.month.days d && from_to 1 most_level q.0)
in_range b (Submit a c q t) = from_to 1 most_quantity q.0
in_range b (Withdraw a n t) = true
in_range b (Accept a n t) = true
in_range b (AskReversal a n t) = true
in_range b (AgreeReversal a n t) = true
in_range b (GeneratorAmends a n q t) = leb q.0 most_quantity
in_range b (OperatorAmends a t) = true

abbrev pub reason7 : Book → Step → Bool
reason7 b s = not (in_range b s)

-- 8: window not open
unfoldable pub reason8 : Book → Step → Bool
reason8 b (Open d p t) = false
reason8 b (Window s e t) = false
reason8 b (Register a r t) = false
reason8 b (Requirement a q t) = false
reason8 b (Margin a f t) = false
reason8 b (Create a k d q t) = false
reason8 b (Terminate a k d q t) = false
reason8 b (Submit a c q t) = not (window_open b.month 1 t)
reason8 b (Withdraw a n t) = not (window_open b.month 3 t)
reason8 b (Accept a n t) = not (window_open b.month 2 t)
reason8 b (AskReversal a n t) = not (window_open b.month 4 t)
reason8 b (AgreeReversal a n t) = not (window_open b.month 4 t)
reason8 b (GeneratorAmends a n q t) = false
reason8 b (OperatorAmends a t) = false

-- 9: status does not allow it: 9, 10 need SUBMITTED; 11 needs ACCEPTED; 12 needs REVERSAL ASKED; 13 needs ACCEPTED or REVERSAL ASKED.
-- ACCEPT on WITHDRAWN is 10 instead
unfoldable pub reason9 : Book → Step → Bool
reason9 b (Open d p t) = false
reason9 b (Window s e t) = false
reason9 b (Register a r t) = false
reason9 b (Requirement a q t) = false
reason9 b (Margin a f t) = false
reason9 b (Create a k d q t) = false
reason9 b (Terminate a k d q t) = false
reason9 b (Submit a c q t) = false
reason9 b (Withdraw a n t) = not (has SUBMITTED (allocation b n))
reason9 b (Accept a n t) = not (has SUBMITTED (allocation b n)) && not (has WITHDRAWN (allocation b n))
reason9 b (AskReversal a n t) = not (has ACCEPTED (allocation b n))
reason9 b (AgreeReversal a n t) = not (has REVERSAL_ASKED (allocation b n))
reason9 b (GeneratorAmends a n q t) = not (has ACCEPTED (allocation b n) || has REVERSAL_ASKED (allocation b n))
reason9 b (OperatorAmends a t) = false

-- 10: ACCEPT of a withdrawn submission
unfoldable pub reason10 : Book → Step → Bool
reason10 b (Open d p t) = false
reason10 b (Window s e t) = false
reason10 b (Register a r t) = false
reason10 b (Requirement a q t) = false
reason10 b (Margin a f t) = false
reason10 b (Create a k d q t) = false
reason10 b (Terminate a k d q t) = false
reason10 b (Submit a c q t) = false
reason10 b (Withdraw a n t) = false
reason10 b (Accept a n t) = has WITHDRAWN (allocation b n)
reason10 b (AskReversal a n t) = false
reason10 b (AgreeReversal a n t) = false
reason10 b (GeneratorAmends a n q t) = false
reason10 b (OperatorAmends a t) = false

-- 11: 256 numbers already given
unfoldable pub reason11 : Book → Step → Bool
reason11 b (Open d p t) = false
reason11 b (Window s e t) = false
reason11 b (Register a r t) = false
reason11 b (Requirement a q t) = false
reason11 b (Margin a f t) = false
reason11 b (Create a k d q t) = false
reason11 b (Terminate a k d q t) = false
reason11 b (Submit a c q t) = leb most_given b.month.given
reason11 b (Withdraw a n t) = false
reason11 b (Accept a n t) = false
reason11 b (AskReversal a n t) = false
reason11 b (AgreeReversal a n t) = false
reason11 b (GeneratorAmends a n q t) = false
reason11 b (OperatorAmends a t) = false

-- 12. SUBMIT: tradeable < quantity + pending + accepted. ACCEPT: tradeable < pending + accepted, this one being inside pending
unfoldable pub reason12 : Book → Step → Bool
reason12 b (Open d p t) = false
reason12 b (Window s e t) = false
reason12 b (Register a r t) = false
reason12 b (Requirement a q t) = false
reason12 b (Margin a f t) = false
reason12 b (Create a k d q t) = false
reason12 b (Terminate a k d q t) = false
reason12 b (Submit a c q t) = ltb (tradeable b a) (q.0 + pending b a + accepted b a)
reason12 b (Withdraw a n t) = false
reason12 b (Accept a n t) = ltb (tradeable b (generator_at b n)) (pending b (generator_at b n) + accepted b (generator_at b n))
reason12 b (AskReversal a n t) = false
reason12 b (AgreeReversal a n t) = false
reason12 b (GeneratorAmends a n q t) = false
reason12 b (OperatorAmends a t) = false

-- 13: margin test fails: SUBMIT and ACCEPT for the generator, AGREE REVERSAL for the customer
unfoldable pub reason13 : Book → Step → Bool
reason13 b (Open d p t) = false
reason13 b (Window s e t) = false
reason13 b (Register a r t) = false
reason13 b (Requirement a q t) = false
reason13 b (Margin a f t) = false
reason13 b (Create a k d q t) = false
reason13 b (Terminate a k d q t) = false
reason13 b (Submit a c q t) = margin_fails b a t (change a c q.0)
reason13 b (Withdraw a n t) = false
reason13 b (Accept a n t) = margin_fails b (generator_at b n) t (change_at b n)
reason13 b (AskReversal a n t) = false
reason13 b (AgreeReversal a n t) = margin_fails b (customer_at b n) t (change_at b n)
reason13 b (GeneratorAmends a n q t) = false
reason13 b (OperatorAmends a t) = false

-- 14: CREATE would pass a level of 10,000,000; TERMINATE takes more than some day's level
unfoldable pub reason14 : Book → Step → Bool
reason14 b (Open d p t) = false
reason14 b (Window s e t) = false
reason14 b (Register a r t) = false
reason14 b (Requirement a q t) = false
reason14 b (Margin a f t) = false
reason14 b (Create a k d q t) = some_level b a k d (λ l. ltb most_level (l + q.0))
reason14 b (Terminate a k d q t) = some_level b a k d (λ l. ltb l q.0)
reason14 b (Submit a c q t) = false
reason14 b (Withdraw a n t) = false
reason14 b (Accept a n t) = false
reason14 b (AskReversal a n t) = false
reason14 b (AgreeReversal a n t) = false
reason14 b (GeneratorAmends a n q t) = false
reason14 b (OperatorAmends a t) = false

-- 15. GENERATOR AMENDS: lowering is not above 0, or is above the excess. OPERATOR AMENDS: excess is 0
unfoldable pub reason15 : Book → Step → Bool
reason15 b (Open d p t) = false
reason15 b (Window s e t) = false
reason15 b (Register a r t) = false
reason15 b (Requirement a q t) = false
reason15 b (Margin a f t) = false
reason15 b (Create a k d q t) = false
reason15 b (Terminate a k d q t) = false
reason15 b (Submit a c q t) = false
reason15 b (Withdraw a n t) = false
reason15 b (Accept a n t) = false
reason15 b (AskReversal a n t) = false
reason15 b (AgreeReversal a n t) = false
reason15 b (GeneratorAmends a n q t) = leb (quantity_at b n) q.0 || ltb (excess b a) (quantity_at b n - q.0)
reason15 b (OperatorAmends a t) = eqb (excess b a) 0

-- ---- the table as one list of numbers and tests, in two parts: reasons 2 to 11 read the month, roles and one allocation, 12 to 15 also totals and levels
pub record Line : Type 0 where
  pub number : ℕ
  pub applies : Book → Step → Bool

abbrev line : ℕ → (Book → Step → Bool) → Line
line n f = record { number = n; applies = f }

abbrev pub early : List Line
early =
    line 2 reason2 ∷ line 3 reason3 ∷ line 4 reason4 ∷ line 5 reason5 ∷ line 6 reason6 ∷ line 7 reason7 ∷ line 8 reason8 ∷ line 9 reason9 ∷ line 10 reason10
    ∷ line 11 reason11 ∷ []

abbrev pub late : List Line
late = line 12 reason12 ∷ line 13 reason13 ∷ line 14 reason14 ∷ line 15 reason15 ∷ []

abbrev pub table : List Line
table = early ++ late

-- the lowest number of some lines that applies, or 0
abbrev pub lowest : List Line → Book → Step → ℕ
lowest [] b s = 0
lowest (l ∷ ls) b s = cond (l.applies b s) l.number (lowest ls b s)

-- the reason that a step is refused for, or 0
unfoldable pub reason_of : Book → Step → ℕ
reason_of = lowest table
