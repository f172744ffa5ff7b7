-- Document 01, "What the desk covers" and "The book": the four parts of a book, the limits of its numbers, and the fresh book. Assumes nothing.
use Rattle.std.specs.Prelude.{Bool, not, ◌||◌, List, ℕ, ◌-◌, eqb, leb, ℤ, pos, nat_abs, get_or, replicate}
use Rattle.book.specs.declared.Window.{Window}
use Rattle.book.specs.declared.Month.{Month}
use Rattle.book.specs.declared.Account.{Account}
use Rattle.book.specs.declared.Allocation.{Allocation}
use Rattle.book.specs.declared.Status.{Status}
use Rattle.book.specs.declared.Status.TheVariants.{Empty, Submitted, Withdrawn, Accepted, ReversalAsked, Reversed}

-- month; an account for each participant; levels; the ledger, allocation number n at place n - 1
pub record Book : Type 0 where
  pub month : Month
  pub accounts : List Account
  pub levels : List ℕ
  pub ledger : List Allocation

-- ---- the limits
-- participants 0 to 31
abbrev pub participants : ℕ
participants = 32

-- allocation numbers 1 to 256
abbrev pub most_given : ℕ
most_given = 256

-- a month has 28 to 31 days
abbrev pub fewest_days : ℕ
fewest_days = 28

abbrev pub most_days : ℕ
most_days = 31

-- P: 0 to 5,000,000 cents per MW for the month
abbrev pub most_price : ℕ
most_price = 5000000

-- each level is at most 10,000,000
abbrev pub most_level : ℕ
most_level = 10000000

-- an allocation's quantity, a requirement, and what a generator has pending and accepted: at most 20,000,000
abbrev pub most_quantity : ℕ
most_quantity = 20000000

-- a margin figure: within 100,000,000,000 of zero
abbrev pub most_figure : ℕ
most_figure = 100000000000

-- a net at the figure: within 640,000,000 of zero
abbrev pub most_net : ℕ
most_net = 640000000

-- a window's end: within 1,000,000 of zero
abbrev pub most_end : ℕ
most_end = 1000000

-- the table of levels: 32 participants, 4 kinds, 31 days
abbrev pub level_places : ℕ
level_places = 3968

-- z lies within k of zero
abbrev pub within : ℕ → ℤ → Bool
within k z = leb (nat_abs z) k

-- ---- the statuses, by number
abbrev pub EMPTY : ℕ
EMPTY = 0

abbrev pub SUBMITTED : ℕ
SUBMITTED = 1

abbrev pub WITHDRAWN : ℕ
WITHDRAWN = 2

abbrev pub ACCEPTED : ℕ
ACCEPTED = 3

abbrev pub REVERSAL_ASKED : ℕ
REVERSAL_ASKED = 4

abbrev pub REVERSED : ℕ
REVERSED = 5

abbrev pub status_number : Status → ℕ
status_number Empty = EMPTY
status_number Submitted = SUBMITTED
status_number Withdrawn = WITHDRAWN
status_number Accepted = ACCEPTED
status_number (ReversalAsked t) = REVERSAL_ASKED
status_number Reversed = REVERSED

-- ---- the roles, by number: 0 is not registered, and 3 has both
abbrev pub GENERATOR : ℕ
GENERATOR = 1

abbrev pub CUSTOMER : ℕ
CUSTOMER = 2

abbrev pub BOTH : ℕ
BOTH = 3

-- ---- what stands where nothing was written
abbrev pub no_window : Window
no_window = record { opening = record { 0 = pos 0 }; closing = record { 0 = pos 0 } }

abbrev pub no_month : Month
no_month = record { days = 0; price = record { 0 = pos 0 }; last = record { 0 = pos 0 }; given = 0; windows = replicate 4 no_window }

abbrev pub no_account : Account
no_account = record { roles = 0; requirement = record { 0 = 0 }; margin = record { figure = record { 0 = pos 0 }; net = record { 0 = pos 0 } } }

-- status 0 EMPTY: all else in the record is 0
abbrev pub no_allocation : Allocation
no_allocation = record { generator = 0; customer = 0; quantity = record { 0 = 0 }; status = Empty }

-- no month open, all else zero
abbrev pub fresh : Book
fresh = record { month = no_month; accounts = replicate participants no_account; levels = replicate level_places 0; ledger = replicate most_given no_allocation }

-- ---- the parts of a book by participant and number
abbrev pub account : Book → ℕ → Account
account b p = get_or b.accounts p no_account

-- allocation number n, from 1
abbrev pub allocation : Book → ℕ → Allocation
allocation b n = get_or b.ledger (n - 1) no_allocation

abbrev pub is_open : Book → Bool
is_open b = not (eqb b.month.days 0)

abbrev pub is_generator : Account → Bool
is_generator a = eqb a.roles GENERATOR || eqb a.roles BOTH

abbrev pub is_customer : Account → Bool
is_customer a = eqb a.roles CUSTOMER || eqb a.roles BOTH

abbrev pub is_registered : Account → Bool
is_registered a = not (eqb a.roles 0)
