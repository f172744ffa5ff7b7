-- Reasons in a row: the lowest number that applies, or 0. Assumes nothing.
use Rattle.std.specs.Prelude.{Bool, cond, ℕ, eqb}

-- the reason, if the test holds
unfoldable pub when : Bool → ℕ → ℕ
when t r = cond t r 0

-- the first reason, unless it is none
unfoldable pub first : ℕ → ℕ → ℕ
first x y = cond (eqb x 0) y x
