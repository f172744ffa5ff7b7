-- An amount c shared in proportion to weights w, by the rule of 01, "The operator's cut": shares are rounded down, and
-- the spare units go one each to the largest remainders, equal remainders to the lower index first, until the total is
-- the amount. An exact share is its weight × c ÷ the total of the weights.
use Rattle.std.specs.Prelude.{cond, List, map, ℕ, zero, suc, ◌+◌, ◌-◌, ◌*◌, ◌/◌, ◌%◌, eqb, length, set}
use Rattle.share.specs.Totals.{at, total, first_largest}

-- The exact share of i, times the total of the weights.
abbrev pub exact : List ℕ → ℕ → ℕ → ℕ
exact w c i = at w i * c

-- The exact share of i, rounded down.
abbrev pub floor : List ℕ → ℕ → ℕ → ℕ
floor w c i = exact w c i / total w

-- What rounding down leaves of it, times the total of the weights.
abbrev pub remainder : List ℕ → ℕ → ℕ → ℕ
remainder w c i = exact w c i % total w

-- All shares rounded down.
unfoldable pub floors : List ℕ → ℕ → List ℕ
floors w c = map (λ v. v * c / total w) w

-- The units that are then still to be given.
unfoldable pub spare : List ℕ → ℕ → ℕ
spare w c = c - total (floors w c)

-- The claim of i to the next unit: one more than its remainder while its share is rounded down, and 0 once it has a unit.
unfoldable pub claim : List ℕ → ℕ → List ℕ → ℕ → ℕ
claim w c x i = cond (eqb (at x i) (floor w c i)) (remainder w c i + 1) 0

-- Who is next: the lowest index with the largest claim.
unfoldable pub next : List ℕ → ℕ → List ℕ → ℕ
next w c x = first_largest (length w) (claim w c x)

-- One unit given to it.
unfoldable pub give_one : List ℕ → ℕ → List ℕ → List ℕ
give_one w c x = set x (next w c x) (at x (next w c x) + 1)

-- So many units given, one after another.
unfoldable pub give : List ℕ → ℕ → ℕ → List ℕ → List ℕ
give w c zero x = x
give w c (suc n) x = give w c n (give_one w c x)

-- The shares.
unfoldable pub share_of : List ℕ → ℕ → List ℕ
share_of w c = give w c (spare w c) (floors w c)
