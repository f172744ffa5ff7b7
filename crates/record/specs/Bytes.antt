-- Numbers in bytes, big-endian: the highest byte comes first (01 "The step record"). A file is a list of numbers, each below 256.
-- Assumes nothing.
use Rattle.std.specs.Prelude.{List, [], ◌∷◌, ℕ, zero, suc, ◌+◌, ◌*◌, ◌/◌, ◌%◌, ◌^◌, ◌<◌, length, get_or}

-- byte i of a file, counted from 0
abbrev pub byte : List ℕ → ℕ → ℕ
byte s i = get_or s i 0

-- every number of a file is a byte
abbrev pub AreBytes : List ℕ → Type 0
AreBytes s = (i : ℕ) → byte s i < 256

-- n bytes of a file, from byte i on
abbrev pub part : List ℕ → ℕ → ℕ → List ℕ
part s i zero = []
part s i (suc n) = byte s i ∷ part s (i + 1) n

-- the number that bytes make
abbrev pub number_of : List ℕ → ℕ
number_of [] = 0
number_of (b ∷ bs) = b * 256 ^ length bs + number_of bs

-- a number in n bytes
abbrev pub bytes : ℕ → ℕ → List ℕ
bytes zero x = []
bytes (suc n) x = x / 256 ^ n ∷ bytes n (x % 256 ^ n)
