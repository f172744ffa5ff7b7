-- The lines that the ledger program prints, as the bytes of their ASCII text, and what it means to put one into a buffer. Assumes nothing.
use Rattle.std.specs.Prelude.{◌≡◌, Bool, cond, List, [], ◌∷◌, ◌++◌, ℕ, zero, suc, ◌+◌, ◌/◌, ◌%◌, ltb, leb, length, take, drop}

abbrev pub newline : ℕ
newline = 10

abbrev pub space : ℕ
space = 32

-- at most so many digits of a number, from its highest one
unfoldable pub written : ℕ → ℕ → List ℕ
written zero n = []
written (suc most) n = cond (ltb n 10) ((48 + n) ∷ []) (written most (n / 10) ++ (48 + n % 10) ∷ [])

-- a number in decimal, with no leading zero and `0` for 0; none has more than n + 1 digits
unfoldable pub decimal : ℕ → List ℕ
decimal n = written (suc n) n

-- what follows a number in a line: a space, and at the line's end a newline
unfoldable pub after : List ℕ → ℕ
after [] = newline
after (n ∷ ns) = space

-- numbers as a line; no number gives no line
unfoldable pub row : List ℕ → List ℕ
row [] = []
row (n ∷ ns) = decimal n ++ after ns ∷ row ns

-- a record's line: its place, its answer, the number given
unfoldable pub answer_line : ℕ → ℕ → ℕ → List ℕ
answer_line place reason number = row (place ∷ reason ∷ number ∷ [])

-- a line of settlement: `S`, the participant and its figures
unfoldable pub figures_line : ℕ → List ℕ → List ℕ
figures_line participant figures = 83 ∷ space ∷ row (participant ∷ figures)

-- settlement refused: `X` and the reason
unfoldable pub refusal_line : ℕ → List ℕ
refusal_line reason = 88 ∷ space ∷ row (reason ∷ [])

-- a buffer with a line put over what stands from a place on
abbrev pub placed : List ℕ → ℕ → List ℕ → List ℕ
placed out at line = take at out ++ (line ++ drop (at + length line) out)

-- at least so many bytes stand from a place on
abbrev pub roomy : List ℕ → ℕ → ℕ → Bool
roomy out at most = leb (at + most) (length out)

-- the line is put there, and the answer is the place after it
pub record Put (out : List ℕ) (at : ℕ) (line : List ℕ) (out' : List ℕ) (r : ℕ) : Type 0 where
  pub ends : r ≡ at + length line
  pub bytes : out' ≡ placed out at line

-- the same where there is room for so many bytes; else nothing is written and the place stays
pub record Laid (most : ℕ) (out : List ℕ) (at : ℕ) (line : List ℕ) (out' : List ℕ) (r : ℕ) : Type 0 where
  pub ends : r ≡ cond (roomy out at most) (at + length line) at
  pub bytes : out' ≡ cond (roomy out at most) (placed out at line) out
