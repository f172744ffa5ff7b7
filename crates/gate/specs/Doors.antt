-- What a room's step is refused for at the door: the lowest of document 01's reasons 2 to 11 that applies, or 0, on every book of which the step sees
-- what is given. Assumes nothing.
use Rattle.std.specs.Prelude.{◌≡◌, false, ℕ, eqb}
use Rattle.record.specs.declared.Step.{Step}
use Rattle.book.specs.declared.Month.{Month}
use Rattle.book.specs.declared.Allocation.{Allocation}
use Rattle.book.specs.Book.{Book, account, allocation}
use Rattle.book.specs.Reasons.{not_given, early, lowest}
use Rattle.gate.specs.declared.Trade.{Trade}
use Rattle.gate.specs.declared.Trade.TheVariants.{Submit, Withdraw, Accept, AskReversal, AgreeReversal, Amend}
use Rattle.gate.specs.declared.AllocationStep.{AllocationStep}
use Rattle.gate.specs.Rooms.{allocation_step}

-- it sees the month
abbrev pub ByMonth : Month → Step → ℕ → Type 0
ByMonth m s r = (b : Book) → b.month ≡ m → r ≡ lowest early b s

-- the month, and the roles of a participant
abbrev pub ByParty : Month → ℕ → ℕ → Step → ℕ → Type 0
ByParty m p roles s r = (b : Book) → b.month ≡ m → (account b p).roles ≡ roles → r ≡ lowest early b s

-- the month, the roles of both parties of a SUBMIT
abbrev pub ByParties : Month → ℕ → ℕ → ℕ → ℕ → Step → ℕ → Type 0
ByParties m p roles c customers s r = (b : Book) → b.month ≡ m → (account b p).roles ≡ roles → (account b c).roles ≡ customers → r ≡ lowest early b s

-- participant B: the customer of a SUBMIT
abbrev pub customer_in : Trade → ℕ
customer_in (Submit c q) = c
customer_in (Withdraw n) = 0
customer_in (Accept n) = 0
customer_in (AskReversal n) = 0
customer_in (AgreeReversal n) = 0
customer_in (Amend n q) = 0

-- the allocation number
abbrev pub number_in : Trade → ℕ
number_in (Submit c q) = 0
number_in (Withdraw n) = n
number_in (Accept n) = n
number_in (AskReversal n) = n
number_in (AgreeReversal n) = n
number_in (Amend n q) = n

-- the month, the roles of A, and of a step that alters one allocation also those of B, where it is another participant than A, and the allocation
-- named, where that number was given
abbrev pub ByTrade : Month → ℕ → ℕ → Allocation → AllocationStep → ℕ → Type 0
ByTrade m roles customers here x r =
    (b : Book) → b.month ≡ m → (account b x.party).roles ≡ roles
    → (eqb x.party (customer_in x.trade) ≡ false → (account b (customer_in x.trade)).roles ≡ customers)
    → (not_given b (number_in x.trade) ≡ false → allocation b (number_in x.trade) ≡ here) → r ≡ lowest early b (allocation_step x)
