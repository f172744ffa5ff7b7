-- The reasons by document 01's numbers, and an answer as document 01 writes it: the number of its reason, or 0. Assumes nothing.
use Rattle.std.specs.Prelude.{ℕ, Result, Ok, Err}
use Rattle.reasons.specs.declared.Reason.{Reason}
use Rattle.reasons.specs.declared.Reason.TheVariants.{Unusable, NoMonth, Already, BeforeLast, Unknown, WrongParty, Outside, Closed, WrongStatus, WasWithdrawn, AllGiven, NotCovered, MarginFails, LevelPassed, NoExcess, Excess}

abbrev pub reason_number : Reason → ℕ
reason_number Unusable = 1
reason_number NoMonth = 2
reason_number Already = 3
reason_number BeforeLast = 4
reason_number Unknown = 5
reason_number WrongParty = 6
reason_number Outside = 7
reason_number Closed = 8
reason_number WrongStatus = 9
reason_number WasWithdrawn = 10
reason_number AllGiven = 11
reason_number NotCovered = 12
reason_number MarginFails = 13
reason_number LevelPassed = 14
reason_number NoExcess = 15
reason_number Excess = 16

-- 0 where it is not refused
abbrev pub reason_said : {T : Type 0} → Result T Reason → ℕ
reason_said (Ok x) = 0
reason_said (Err r) = reason_number r
