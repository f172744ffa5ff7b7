-- Document 01, "Words with exact meaning". Each total is over the whole ledger: an empty record adds nothing. Assumes nothing.
use Rattle.std.specs.Prelude.{Bool, true, false, cond, ◌&&◌, List, [], ◌∷◌, ℕ, zero, suc, ◌+◌, ◌-◌, ◌*◌, ◌/◌, min, eqb, ℤ, pos, negsuc, ◌+ℤ◌, ◌-ℤ◌, ◌*ℤ◌, get_or}
use Rattle.std.specs.Int.Signed.{lt_z}
use Rattle.units.specs.declared.Minutes.{Minutes}
use Rattle.book.specs.declared.Month.{Month}
use Rattle.book.specs.declared.Account.{Account}
use Rattle.book.specs.declared.Allocation.{Allocation}
use Rattle.book.specs.declared.Status.{Status}
use Rattle.book.specs.declared.Status.TheVariants.{Empty, Submitted, Withdrawn, Accepted, ReversalAsked, Reversed}
use Rattle.book.specs.Book.{Book, account}

-- status 1: pending
abbrev pub is_pending : Status → Bool
is_pending Empty = false
is_pending Submitted = true
is_pending Withdrawn = false
is_pending Accepted = false
is_pending (ReversalAsked t) = false
is_pending Reversed = false

-- statuses 3 and 4: accepted
abbrev pub is_accepted : Status → Bool
is_accepted Empty = false
is_accepted Submitted = false
is_accepted Withdrawn = false
is_accepted Accepted = true
is_accepted (ReversalAsked t) = true
is_accepted Reversed = false

-- what an allocation adds to a participant's pending, accepted (made) and received quantities
unfoldable pub pending_in : ℕ → Allocation → ℕ
pending_in p a = cond (eqb a.generator p && is_pending a.status) a.quantity.0 0

unfoldable pub accepted_in : ℕ → Allocation → ℕ
accepted_in p a = cond (eqb a.generator p && is_accepted a.status) a.quantity.0 0

unfoldable pub received_in : ℕ → Allocation → ℕ
received_in p a = cond (eqb a.customer p && is_accepted a.status) a.quantity.0 0

-- the total of f over a list
unfoldable pub total : {A : Type 0} → (A → ℕ) → List A → ℕ
total f [] = 0
total f (a ∷ l) = f a + total f l

-- a generator's pending: the total of its allocations of status 1
abbrev pub pending : Book → ℕ → ℕ
pending b g = total (pending_in g) b.ledger

-- accepted: the total of its allocations of statuses 3 and 4
abbrev pub accepted : Book → ℕ → ℕ
accepted b g = total (accepted_in g) b.ledger

-- accepted quantity received
abbrev pub received : Book → ℕ → ℕ
received b p = total (received_in p) b.ledger

-- the place of a level in the table: by participant, kind from 1 and day from 1
abbrev pub level_place : ℕ → ℕ → ℕ → ℕ
level_place p kind day = p * 124 + (kind - 1) * 31 + (day - 1)

-- credits of a participant, kind and day
abbrev pub level_in : List ℕ → ℕ → ℕ → ℕ → ℕ
level_in lv p kind day = get_or lv (level_place p kind day) 0

abbrev pub level : Book → ℕ → ℕ → ℕ → ℕ
level b = level_in b.levels

-- the sum over days 1 to d
unfoldable pub over_days : ℕ → (ℕ → ℕ) → ℕ
over_days zero f = 0
over_days (suc d) f = over_days d f + f (suc d)

-- tradeable credits: the levels of kinds 1 and 2 summed over days 1 to D, divided by D, rounded down (002, 3.1.2 to 3.1.6)
unfoldable pub tradeable_in : List ℕ → ℕ → ℕ → ℕ
tradeable_in lv d g = (over_days d (level_in lv g 1) + over_days d (level_in lv g 2)) / d

abbrev pub tradeable : Book → ℕ → ℕ
tradeable b = tradeable_in b.levels b.month.days

-- excess: accepted minus tradeable where positive, else 0
abbrev pub excess : Book → ℕ → ℕ
excess b g = accepted b g - tradeable b g

-- net: accepted quantity received minus accepted quantity made
abbrev pub net : Book → ℕ → ℤ
net b p = pos (received b p) -ℤ pos (accepted b p)

-- exposed days e at minute t: 0 if t is below 0, else the smaller of D and t divided by 1,440 rounded down
unfoldable pub exposed_days : ℤ → ℕ → ℕ
exposed_days (pos t) d = min d (t / 1440)
exposed_days (negsuc t) d = 0

-- margin test (002, section 8) for a change c in net: figure × 10,000 × D + 11 × P × e × (net now + c − net at the figure)
unfoldable pub margin_of : Month → Account → ℤ → Minutes → ℤ → ℤ
margin_of m a now t c =
    a.margin.figure.0 *ℤ pos 10000 *ℤ pos m.days
    +ℤ pos 11 *ℤ m.price.0 *ℤ pos (exposed_days t.0 m.days) *ℤ (now +ℤ c -ℤ a.margin.net.0)

abbrev pub margin : Book → ℕ → Minutes → ℤ → ℤ
margin b p = margin_of b.month (account b p) (net b p)

-- below zero fails; zero passes
abbrev pub margin_fails : Book → ℕ → Minutes → ℤ → Bool
margin_fails b p t c = lt_z (margin b p t c) (pos 0)
