-- A step by the part of the book that it alters: what a room's step says in document 01's kinds. Assumes nothing.
use Rattle.std.specs.Prelude.{Bool, true, false, ℕ, Option, Some, None}
use Rattle.units.specs.declared.Minutes.{Minutes}
use Rattle.units.specs.declared.Thousandths.{Thousandths}
use Rattle.record.specs.declared.Step.{Step}
use Rattle.record.specs.declared.Step.TheVariants as S
use Rattle.gate.specs.declared.MonthChange.{MonthChange}
use Rattle.gate.specs.declared.MonthChange.TheVariants.{Open, Window}
use Rattle.gate.specs.declared.MonthStep.{MonthStep}
use Rattle.gate.specs.declared.AccountChange.{AccountChange}
use Rattle.gate.specs.declared.AccountChange.TheVariants.{Roles, Requirement, Margin}
use Rattle.gate.specs.declared.AccountStep.{AccountStep}
use Rattle.gate.specs.declared.LevelChange.{LevelChange}
use Rattle.gate.specs.declared.LevelChange.TheVariants.{Create, Terminate}
use Rattle.gate.specs.declared.LevelStep.{LevelStep}
use Rattle.gate.specs.declared.Trade.{Trade}
use Rattle.gate.specs.declared.Trade.TheVariants.{Submit, Withdraw, Accept, AskReversal, AgreeReversal, Amend}
use Rattle.gate.specs.declared.AllocationStep.{AllocationStep}
use Rattle.gate.specs.declared.CutStep.{CutStep}
use Rattle.gate.specs.declared.Room.{Room}
use Rattle.gate.specs.declared.Room.TheVariants as R

-- OPEN and WINDOW
abbrev pub sets_month : MonthChange → Minutes → Step
sets_month (Open d p) t = S.Open d p t
sets_month (Window s e) t = S.Window s e t

abbrev pub month_step : MonthStep → Step
month_step x = sets_month x.change x.at

-- REGISTER, REQUIREMENT and MARGIN
abbrev pub sets_account : ℕ → AccountChange → Minutes → Step
sets_account p (Roles r) t = S.Register p r t
sets_account p (Requirement q) t = S.Requirement p q t
sets_account p (Margin f) t = S.Margin p f t

abbrev pub account_step : AccountStep → Step
account_step x = sets_account x.participant x.change x.at

-- CREATE and TERMINATE
abbrev pub creates : LevelChange → Bool
creates Create = true
creates Terminate = false

abbrev pub credits : LevelChange → ℕ → ℕ → ℕ → Thousandths → Minutes → Step
credits Create p k d q t = S.Create p k d q t
credits Terminate p k d q t = S.Terminate p k d q t

abbrev pub level_step : LevelStep → Step
level_step x = credits x.change x.participant x.kind x.day x.quantity x.at

-- SUBMIT to AGREE REVERSAL, and GENERATOR AMENDS
abbrev pub trades : ℕ → Trade → Minutes → Step
trades p (Submit c q) t = S.Submit p c q t
trades p (Withdraw n) t = S.Withdraw p n t
trades p (Accept n) t = S.Accept p n t
trades p (AskReversal n) t = S.AskReversal p n t
trades p (AgreeReversal n) t = S.AgreeReversal p n t
trades p (Amend n q) t = S.GeneratorAmends p n q t

abbrev pub allocation_step : AllocationStep → Step
allocation_step x = trades x.party x.trade x.at

-- OPERATOR AMENDS
abbrev pub cut_step : CutStep → Step
cut_step x = S.OperatorAmends x.generator x.at

-- what a record says that comes into a room
abbrev pub said_by : Room → Option Step
said_by (R.Month x) = Some (month_step x)
said_by (R.Account x) = Some (account_step x)
said_by (R.Levels x) = Some (level_step x)
said_by (R.Allocation x) = Some (allocation_step x)
said_by (R.Cut x) = Some (cut_step x)
said_by R.Nowhere = None
