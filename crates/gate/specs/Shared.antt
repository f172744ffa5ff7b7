-- What the doors of several kinds share, as reasons in a row, for the contracts of functions that no other crate can call. Assumes nothing.
use Rattle.std.specs.Prelude.{Bool, not, ◌&&◌, ◌||◌, ℕ, eqb, leb, ltb}
use Rattle.std.specs.Int.Signed.{le_z, lt_z}
use Rattle.units.specs.declared.Minutes.{Minutes}
use Rattle.units.specs.declared.Thousandths.{Thousandths}
use Rattle.book.specs.declared.Window.{Window}
use Rattle.book.specs.declared.Month.{Month}
use Rattle.book.specs.declared.Allocation.{Allocation}
use Rattle.book.specs.Book.{SUBMITTED, WITHDRAWN, ACCEPTED, REVERSAL_ASKED, most_quantity}
use Rattle.book.specs.Reasons.{window_open, has}
use Rattle.reasons.specs.Chain.{when, first}
use Rattle.gate.specs.declared.trades.Asked.{Asked}

-- 2 and 4, for all kinds but OPEN
abbrev pub before_all : Month → Minutes → ℕ
before_all m t = first (when (eqb m.days 0) 2) (when (lt_z t.0 m.last.0) 4)

-- a window is open at a minute
abbrev pub open_at : Window → Minutes → Bool
open_at w t = le_z w.opening.0 t.0 && lt_z t.0 w.closing.0

-- ---- kinds that name an allocation
-- 2, 4, 5 and 6 where A has to be a party of it
abbrev pub as_named : Asked → ℕ → ℕ → ℕ
as_named s party n =
    first (before_all s.month s.at) (first (when (eqb s.roles 0 || (eqb n 0 || ltb s.month.given n)) 5) (when (not (eqb party s.party)) 6))

-- 8 and 9 where a window has to be open and a test of the status to hold
abbrev pub in_window : ℕ → Bool → Month → Minutes → ℕ
in_window window holds m t = first (when (not (window_open m window t)) 8) (when (not holds) 9)

-- 8, 9 and 10 of ACCEPT
abbrev pub to_accept : Month → Minutes → Allocation → ℕ
to_accept m t l = first (when (not (window_open m 2 t)) 8) (first (when (not (has SUBMITTED l) && not (has WITHDRAWN l)) 9) (when (has WITHDRAWN l) 10))

-- 7 and 9 of GENERATOR AMENDS
abbrev pub to_amend : Thousandths → Allocation → ℕ
to_amend q l = first (when (not (leb q.0 most_quantity)) 7) (when (not (has ACCEPTED l || has REVERSAL_ASKED l)) 9)
