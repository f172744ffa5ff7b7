-- Document 01, "The book": when a book is sound. It is the fresh one, or a month is open and every number, level and record is as it should be.
-- Every test here computes. Assumes nothing.
use Rattle.std.specs.Prelude.{Bool, true, cond, not, ◌&&◌, ◌||◌, ℕ, zero, suc, ◌+◌, ◌%◌, eqb, leb, ltb, ℤ, pos, nat_abs, length, get_or}
use Rattle.std.specs.Int.Signed.{le_z}
use Rattle.book.specs.declared.Window.{Window}
use Rattle.book.specs.declared.Month.{Month}
use Rattle.book.specs.declared.Account.{Account}
use Rattle.book.specs.declared.Allocation.{Allocation}
use Rattle.book.specs.Book.{Book, account, within, status_number, is_generator, is_customer, no_window, no_allocation, participants, most_given, fewest_days, most_days, most_price, most_level, most_quantity, most_figure, most_net, most_end, level_places}
use Rattle.book.specs.Words.{pending, accepted}

-- f holds at each place below n
unfoldable pub each : ℕ → (ℕ → Bool) → Bool
each zero f = true
each (suc n) f = each n f && f n

-- the tables have their lengths: four windows, 32 accounts, 3,968 levels, 256 allocation records
unfoldable pub right_lengths : Book → Bool
right_lengths b =
    eqb (length b.month.windows) 4 && (eqb (length b.accounts) participants && (eqb (length b.levels) level_places && eqb (length b.ledger) most_given))

-- ---- the fresh book: no month open, all else zero
abbrev pub is_zero : ℤ → Bool
is_zero z = eqb (nat_abs z) 0

abbrev pub is_no_window : Window → Bool
is_no_window w = is_zero w.opening.0 && is_zero w.closing.0

unfoldable pub is_no_month : Month → Bool
is_no_month m = eqb m.days 0 && (is_zero m.price.0 && (is_zero m.last.0 && (eqb m.given 0 && each 4 (λ i. is_no_window (get_or m.windows i no_window)))))

unfoldable pub is_no_account : Account → Bool
is_no_account a = eqb a.roles 0 && (eqb a.requirement.0 0 && (is_zero a.margin.figure.0 && is_zero a.margin.net.0))

unfoldable pub is_no_allocation : Allocation → Bool
is_no_allocation a = eqb (status_number a.status) 0 && (eqb a.generator 0 && (eqb a.customer 0 && eqb a.quantity.0 0))

unfoldable pub is_fresh : Book → Bool
is_fresh b =
    is_no_month b.month
    && (each participants (λ p. is_no_account (account b p))
    && (each level_places (λ i. eqb (get_or b.levels i 0) 0)
    && each most_given (λ i. is_no_allocation (get_or b.ledger i no_allocation))))

-- ---- a book with a month open
-- a window's ends lie within their limit
abbrev pub window_sound : Window → Bool
window_sound w = within most_end w.opening.0 && within most_end w.closing.0

-- the month's numbers are inside their limits
unfoldable pub month_sound : Month → Bool
month_sound m =
    leb fewest_days m.days && (leb m.days most_days && (le_z (pos 0) m.price.0 && (le_z m.price.0 (pos most_price) && (leb m.given most_given
    && each 4 (λ i. window_sound (get_or m.windows i no_window))))))

-- an account's numbers are inside their limits, and its net at the figure within 640,000,000 of zero
unfoldable pub account_sound : Account → Bool
account_sound a = leb a.roles 3 && (leb a.requirement.0 most_quantity && (within most_figure a.margin.figure.0 && within most_net a.margin.net.0))

-- a level is at most 10,000,000, and 0 on the days after D; the table has 31 days for each participant and kind
unfoldable pub level_sound : ℕ → ℕ → ℕ → Bool
level_sound days place level = leb level most_level && (ltb (place % 31) days || eqb level 0)

-- up to the number given: statuses 1 to 5, registered participants in proper roles, a quantity up to 20,000,000
unfoldable pub given_sound : Book → Allocation → Bool
given_sound b a =
    not (eqb (status_number a.status) 0) && (is_generator (account b a.generator) && (is_customer (account b a.customer) && leb a.quantity.0 most_quantity))

-- later records are empty
abbrev pub record_sound : Book → ℕ → Bool
record_sound b i = cond (ltb i b.month.given) (given_sound b (get_or b.ledger i no_allocation)) (is_no_allocation (get_or b.ledger i no_allocation))

unfoldable pub open_sound : Book → Bool
open_sound b =
    month_sound b.month
    && (each participants (λ p. account_sound (account b p))
    && (each level_places (λ i. level_sound b.month.days i (get_or b.levels i 0))
    && (each most_given (record_sound b)
    && each participants (λ p. leb (pending b p + accepted b p) most_quantity))))

-- the fresh book, or all of those
unfoldable pub sound : Book → Bool
sound b = is_fresh b || open_sound b
