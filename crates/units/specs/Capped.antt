-- What an add of two quantities, amounts or times answers where the sum is more than the unit can hold: the nearest value that it can.
-- So an add never wraps, and has no case that it leaves open. Assumes nothing.
use Rattle.std.specs.Prelude.{ℕ, ◌-◌, ◌^◌, min, ℤ, pos, negsuc}
use Rattle.std.specs.Int.{Width}
use mir.Val.{hbits}

-- the most thousandths of a MW that a quantity can hold
abbrev pub most_thousandths : ℕ
most_thousandths = 4294967295

-- a sum of quantities, as the unit holds it
abbrev pub capped : ℕ → ℕ
capped n = min n most_thousandths

-- a sum of amounts (64 bits) or of times (32 bits), as the unit holds it: from -2 ^ (bits - 1) to 2 ^ (bits - 1) - 1. std says the same as
-- `saturate_signed`; it is written out so that the promise is read here.
abbrev pub capped_z : Width → ℤ → ℤ
capped_z w (pos n) = pos (min n (2 ^ hbits w - 1))
capped_z w (negsuc n) = negsuc (min n (2 ^ hbits w - 1))
