-- Document 01, "The step record": the fourteen kinds by number, and the minute, which every kind uses. Assumes nothing.
use Rattle.std.specs.Prelude.{Bool, ℕ, eqb}
use Rattle.units.specs.declared.Minutes.{Minutes}
use Rattle.record.specs.declared.Step.{Step}
use Rattle.record.specs.declared.Step.TheVariants.{Open, Window, Register, Requirement, Margin, Create, Terminate, Submit, Withdraw, Accept, AskReversal, AgreeReversal, GeneratorAmends, OperatorAmends}

-- ---- the kinds
abbrev pub OPEN : ℕ
OPEN = 1

abbrev pub WINDOW : ℕ
WINDOW = 2

abbrev pub REGISTER : ℕ
REGISTER = 3

abbrev pub REQUIREMENT : ℕ
REQUIREMENT = 4

abbrev pub MARGIN : ℕ
MARGIN = 5

abbrev pub CREATE : ℕ
CREATE = 6

abbrev pub TERMINATE : ℕ
TERMINATE = 7

abbrev pub SUBMIT : ℕ
SUBMIT = 8

abbrev pub WITHDRAW : ℕ
WITHDRAW = 9

abbrev pub ACCEPT : ℕ
ACCEPT = 10

abbrev pub ASK_REVERSAL : ℕ
ASK_REVERSAL = 11

abbrev pub AGREE_REVERSAL : ℕ
AGREE_REVERSAL = 12

abbrev pub GENERATOR_AMENDS : ℕ
GENERATOR_AMENDS = 13

abbrev pub OPERATOR_AMENDS : ℕ
OPERATOR_AMENDS = 14

-- the number of a step's kind
abbrev pub kind_of : Step → ℕ
kind_of (Open d p t) = OPEN
kind_of (Window s e t) = WINDOW
kind_of (Register a r t) = REGISTER
kind_of (Requirement a q t) = REQUIREMENT
kind_of (Margin a f t) = MARGIN
kind_of (Create a k d q t) = CREATE
kind_of (Terminate a k d q t) = TERMINATE
kind_of (Submit a c q t) = SUBMIT
kind_of (Withdraw a n t) = WITHDRAW
kind_of (Accept a n t) = ACCEPT
kind_of (AskReversal a n t) = ASK_REVERSAL
kind_of (AgreeReversal a n t) = AGREE_REVERSAL
kind_of (GeneratorAmends a n q t) = GENERATOR_AMENDS
kind_of (OperatorAmends a t) = OPERATOR_AMENDS

-- the step is of that kind
abbrev pub is : ℕ → Step → Bool
is k s = eqb (kind_of s) k

-- ---- the minute
abbrev pub time_of : Step → Minutes
time_of (Open d p t) = t
time_of (Window s e t) = t
time_of (Register a r t) = t
time_of (Requirement a q t) = t
time_of (Margin a f t) = t
time_of (Create a k d q t) = t
time_of (Terminate a k d q t) = t
time_of (Submit a c q t) = t
time_of (Withdraw a n t) = t
time_of (Accept a n t) = t
time_of (AskReversal a n t) = t
time_of (AgreeReversal a n t) = t
time_of (GeneratorAmends a n q t) = t
time_of (OperatorAmends a t) = t
