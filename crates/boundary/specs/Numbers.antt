-- A lent book as numbers at fixed places: 0 days, 1 price, 2 minute of the last step, 3 last number given, 4 to 11 the windows' ends; from 12 the 32
-- accounts, four numbers each; from 140 the 256 records, five each. `numbers_of` lays a book out, and `book_in` reads one back from any list of numbers
-- and any table of levels: a number that its field cannot hold, or that is not there, reads as 0. Assumes nothing.
use Rattle.std.specs.Prelude.{Bool, cond, ◌&&◌, List, [], ◌∷◌, ◌++◌, map, flat_map, ℕ, ◌+◌, ◌*◌, eqb, ℤ, pos, negsuc, nat_abs, get_or}
use Rattle.std.specs.Int.Signed.{le_z}
use Rattle.std.specs.List.{range_with_len}
use Rattle.units.specs.Capped.{most_thousandths}
use Rattle.units.specs.declared.Minutes.{Minutes}
use Rattle.book.specs.declared.Window.{Window}
use Rattle.book.specs.declared.Month.{Month}
use Rattle.book.specs.declared.Account.{Account}
use Rattle.book.specs.declared.Allocation.{Allocation}
use Rattle.book.specs.declared.Status.{Status}
use Rattle.book.specs.declared.Status.TheVariants.{Empty, Submitted, Withdrawn, Accepted, ReversalAsked, Reversed}
use Rattle.book.specs.Book.{Book, no_window, status_number, participants, most_given}

-- ---- the places
-- so many numbers in all
abbrev pub book_places : ℕ
book_places = 1420

-- where participant p's account begins
abbrev pub account_place : ℕ → ℕ
account_place p = 12 + p * 4

-- where record i, from 0, begins
abbrev pub record_place : ℕ → ℕ
record_place i = 140 + i * 5

-- ---- a table, entry by entry
-- f at 0, 1, 2 .. below n
abbrev pub tabled : {A : Type 0} → ℕ → (ℕ → A) → List A
tabled n f = map f (range_with_len 0 n)

-- ---- from a book to its numbers
abbrev pub window_numbers : Window → List ℤ
window_numbers w = w.opening.0 ∷ w.closing.0 ∷ []

-- days, price, minute of the last step, last number given
abbrev pub head_numbers : Month → List ℤ
head_numbers m = pos m.days ∷ m.price.0 ∷ m.last.0 ∷ pos m.given ∷ []

abbrev pub month_numbers : Month → List ℤ
month_numbers m =
    head_numbers m
    ++ (window_numbers (get_or m.windows 0 no_window)
    ++ (window_numbers (get_or m.windows 1 no_window)
    ++ (window_numbers (get_or m.windows 2 no_window)
    ++ window_numbers (get_or m.windows 3 no_window))))

-- roles, requirement, figure, net at the figure
abbrev pub account_numbers : Account → List ℤ
account_numbers a = pos a.roles ∷ pos a.requirement.0 ∷ a.margin.figure.0 ∷ a.margin.net.0 ∷ []

-- the minute of the asking; 0 unless the status keeps one
abbrev pub asked_number : Status → ℤ
asked_number Empty = pos 0
asked_number Submitted = pos 0
asked_number Withdrawn = pos 0
asked_number Accepted = pos 0
asked_number (ReversalAsked t) = t.0
asked_number Reversed = pos 0

-- generator, customer, quantity, status number, minute of the asking
abbrev pub allocation_numbers : Allocation → List ℤ
allocation_numbers a = pos a.generator ∷ pos a.customer ∷ pos a.quantity.0 ∷ pos (status_number a.status) ∷ asked_number a.status ∷ []

unfoldable pub numbers_of : Month → List Account → List Allocation → List ℤ
numbers_of m accounts ledger = month_numbers m ++ (flat_map account_numbers accounts ++ flat_map allocation_numbers ledger)

-- ---- from numbers to a book
abbrev pub number_at : List ℤ → ℕ → ℤ
number_at ns i = get_or ns i (pos 0)

abbrev pub between : ℤ → ℤ → ℤ → Bool
between low high z = le_z low z && le_z z high

-- what a field can hold is read; all else reads as 0
abbrev pub held : ℤ → ℤ → ℤ → ℤ
held low high z = cond (between low high z) z (pos 0)

-- a field that holds 0 to most
abbrev pub counted : ℕ → ℤ → ℕ
counted most z = nat_abs (held (pos 0) (pos most) z)

-- participants, roles and days; numbers given
abbrev pub most_byte : ℕ
most_byte = 255

abbrev pub most_number : ℕ
most_number = 65535

-- statuses 0 to 5
abbrev pub most_status : ℕ
most_status = 5

-- minutes: what 32 bits hold
abbrev pub least_minute : ℤ
least_minute = negsuc 2147483647

abbrev pub most_minute : ℤ
most_minute = pos 2147483647

abbrev pub minutes_in : ℤ → Minutes
minutes_in z = record { 0 = held least_minute most_minute z }

abbrev pub window_at : List ℤ → ℕ → Window
window_at ns i = record { opening = minutes_in (number_at ns i); closing = minutes_in (number_at ns (i + 1)) }

abbrev pub month_in : List ℤ → Month
month_in ns = record {
  days = counted most_byte (number_at ns 0);
  price = record { 0 = number_at ns 1 };
  last = minutes_in (number_at ns 2);
  given = counted most_number (number_at ns 3);
  windows = window_at ns 4 ∷ window_at ns 6 ∷ window_at ns 8 ∷ window_at ns 10 ∷ [];
}

abbrev pub account_at : List ℤ → ℕ → Account
account_at ns i = record {
  roles = counted most_byte (number_at ns i);
  requirement = record { 0 = counted most_thousandths (number_at ns (i + 1)) };
  margin = record { figure = record { 0 = number_at ns (i + 2) }; net = record { 0 = number_at ns (i + 3) } };
}

-- the status of a number; REVERSAL ASKED keeps the minute
abbrev pub status_of : ℕ → Minutes → Status
status_of n t =
    cond (eqb n 1) Submitted (cond (eqb n 2) Withdrawn (cond (eqb n 3) Accepted (cond (eqb n 4) (ReversalAsked t) (cond (eqb n 5) Reversed Empty))))

abbrev pub allocation_at : List ℤ → ℕ → Allocation
allocation_at ns i = record {
  generator = counted most_byte (number_at ns i);
  customer = counted most_byte (number_at ns (i + 1));
  quantity = record { 0 = counted most_thousandths (number_at ns (i + 2)) };
  status = status_of (counted most_status (number_at ns (i + 3))) (minutes_in (number_at ns (i + 4)));
}

unfoldable pub accounts_in : List ℤ → List Account
accounts_in ns = tabled participants (λ p. account_at ns (account_place p))

unfoldable pub ledger_in : List ℤ → List Allocation
ledger_in ns = tabled most_given (λ i. allocation_at ns (record_place i))

abbrev pub book_in : List ℤ → List ℕ → Book
book_in ns lv = record { month = month_in ns; accounts = accounts_in ns; levels = lv; ledger = ledger_in ns }
