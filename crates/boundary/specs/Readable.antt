-- Which lists of numbers are a book's: 1,420 of them, each inside what its field can hold, and the minute of the asking 0 unless the status keeps one.
-- Those are the lists that `numbers_of` gives back once they are read (`proofs/Kept`). Assumes nothing.
use Rattle.std.specs.Prelude.{Bool, cond, ◌&&◌, List, ℕ, ◌+◌, eqb, ℤ, pos, length}
use Rattle.units.specs.Capped.{most_thousandths}
use Rattle.book.specs.Book.{participants, most_given}
use Rattle.book.specs.Sound.{each}
use Rattle.boundary.specs.Numbers.{book_places, account_place, record_place, number_at, between, counted, most_byte, most_number, most_status, least_minute, most_minute}

-- a field that holds 0 to most
abbrev pub fits_to : ℕ → ℤ → Bool
fits_to most z = between (pos 0) (pos most) z

-- a minute
abbrev pub fits_minute : ℤ → Bool
fits_minute z = between least_minute most_minute z

-- the two ends of a window
unfoldable pub window_fits : ℤ → ℤ → Bool
window_fits opening closing = fits_minute opening && fits_minute closing

abbrev pub window_reads : List ℤ → ℕ → Bool
window_reads ns i = window_fits (number_at ns i) (number_at ns (i + 1))

unfoldable pub month_reads : List ℤ → Bool
month_reads ns =
    fits_to most_byte (number_at ns 0)
    && (fits_minute (number_at ns 2)
    && (fits_to most_number (number_at ns 3)
    && (window_reads ns 4 && (window_reads ns 6 && (window_reads ns 8 && window_reads ns 10)))))

unfoldable pub account_reads : List ℤ → ℕ → Bool
account_reads ns i = fits_to most_byte (number_at ns i) && fits_to most_thousandths (number_at ns (i + 1))

-- the minute of the asking: any where the status is REVERSAL ASKED, else 0
abbrev pub asked_reads : ℕ → ℤ → Bool
asked_reads status z = cond (eqb status 4) (fits_minute z) (between (pos 0) (pos 0) z)

unfoldable pub allocation_reads : List ℤ → ℕ → Bool
allocation_reads ns i =
    fits_to most_byte (number_at ns i)
    && (fits_to most_byte (number_at ns (i + 1))
    && (fits_to most_thousandths (number_at ns (i + 2))
    && (fits_to most_status (number_at ns (i + 3)) && asked_reads (counted most_status (number_at ns (i + 3))) (number_at ns (i + 4)))))

unfoldable pub accounts_read : List ℤ → Bool
accounts_read ns = each participants (λ p. account_reads ns (account_place p))

unfoldable pub ledger_reads : List ℤ → Bool
ledger_reads ns = each most_given (λ i. allocation_reads ns (record_place i))

unfoldable pub readable : List ℤ → Bool
readable ns = eqb (length ns) book_places && (month_reads ns && (accounts_read ns && ledger_reads ns))
