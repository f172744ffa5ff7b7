-- What a done step of each room writes, in the words of document 01's steps: the month, an account, levels, one allocation with the totals beside it, and
-- the number that it gives; and what it leaves and answers, done or refused, in document 01's numbers. Assumes nothing.
use Rattle.std.specs.Prelude.{Bool, cond, List, ℕ, ◌+◌, ◌-◌, pos, ◌-ℤ◌, get_or, set, Option, Some, None, Result, Ok, Err, unwrap_or}
use Rattle.units.specs.declared.Minutes.{Minutes}
use Rattle.units.specs.declared.Net.{Net}
use Rattle.book.specs.declared.Answer.{Answer}
use Rattle.book.specs.declared.Month.{Month}
use Rattle.book.specs.declared.Account.{Account}
use Rattle.book.specs.declared.Allocation.{Allocation}
use Rattle.book.specs.declared.Status.TheVariants as S
use Rattle.book.specs.Cut.{with_quantity}
use Rattle.book.specs.Steps.{at_minute, opened, window_set, numbered, with_roles, with_requirement, with_margin, with_status}
use Rattle.reasons.specs.declared.Reason.{Reason}
use Rattle.reasons.specs.Numbers.{reason_number}
use Rattle.reasons.specs.Parts.{pends, counts}
use Rattle.gate.specs.declared.MonthChange.{MonthChange}
use Rattle.gate.specs.declared.MonthChange.TheVariants.{Open, Window}
use Rattle.gate.specs.declared.AccountChange.{AccountChange}
use Rattle.gate.specs.declared.AccountChange.TheVariants.{Roles, Requirement, Margin}
use Rattle.gate.specs.declared.Trade.{Trade}
use Rattle.gate.specs.declared.Trade.TheVariants.{Submit, Withdraw, Accept, AskReversal, AgreeReversal, Amend}
use Rattle.sound.specs.declared.made.Totals.{Totals}
use Rattle.sound.specs.Check.{no_totals}
use Rattle.ledger.specs.declared.steps.Done.{Done}

-- ---- the month
abbrev pub month_by : MonthChange → Month → Month
month_by (Open d p) m = opened d p m
month_by (Window s e) m = window_set s e.0 m

-- ---- an account, from the net that its participant has now
abbrev pub account_by : AccountChange → Net → Account → Account
account_by (Roles r) n a = with_roles r a
account_by (Requirement q) n a = with_requirement q a
account_by (Margin f) n a = with_margin (record { figure = f; net = n }) a

-- the net of a participant, from its totals
abbrev pub net_in : List Totals → ℕ → Net
net_in ts p = record { 0 = pos (get_or ts p no_totals).received.0 -ℤ pos (get_or ts p no_totals).made.0 }

-- ---- levels: CREATE adds, TERMINATE takes
abbrev pub moved_by : Bool → ℕ → ℕ → ℕ
moved_by creates q l = cond creates (l + q) (l - q)

-- ---- one allocation
abbrev pub allocation_by : ℕ → Minutes → Trade → Allocation → Allocation
allocation_by p t (Submit c q) l = record { generator = p; customer = c; quantity = q; status = S.Submitted }
allocation_by p t (Withdraw n) l = with_status S.Withdrawn l
allocation_by p t (Accept n) l = with_status S.Accepted l
allocation_by p t (AskReversal n) l = with_status (S.ReversalAsked t) l
allocation_by p t (AgreeReversal n) l = with_status S.Reversed l
allocation_by p t (Amend n q) l = with_quantity l q.0

-- the totals of its parties, less what the old record gave them and with what the new one gives
abbrev pub generator_after : Allocation → Allocation → Totals → Totals
generator_after old new s = record s {
  pending = record { 0 = s.pending.0 - pends old + pends new };
  made = record { 0 = s.made.0 - counts old + counts new };
}

abbrev pub customer_after : Allocation → Allocation → Totals → Totals
customer_after old new s = record s { received = record { 0 = s.received.0 - counts old + counts new } }

-- the generator's first, so that a participant on both sides has both
unfoldable pub totals_after : Allocation → Allocation → List Totals → List Totals
totals_after old new ts =
    let one = set ts new.generator (generator_after old new (get_or ts new.generator no_totals)) in
    set one new.customer (customer_after old new (get_or one new.customer no_totals))

-- ---- the month that a done step leaves, which stores its minute, and the number that it gives
abbrev pub traded_at : Minutes → Trade → Month → Month
traded_at t (Submit c q) m = at_minute t (numbered m)
traded_at t (Withdraw n) m = at_minute t m
traded_at t (Accept n) m = at_minute t m
traded_at t (AskReversal n) m = at_minute t m
traded_at t (AgreeReversal n) m = at_minute t m
traded_at t (Amend n q) m = at_minute t m

abbrev pub given_by : Trade → Month → Option ℕ
given_by (Submit c q) m = Some (m.given + 1)
given_by (Withdraw n) m = None
given_by (Accept n) m = None
given_by (AskReversal n) m = None
given_by (AgreeReversal n) m = None
given_by (Amend n q) m = None

-- ---- the month that a step leaves, and its answer as document 01's two numbers
pub record Stepped : Type 0 where
  pub month : Month
  pub answer : Answer

-- done, with the number that it gives, or refused
abbrev pub answer_said : Result (Option ℕ) Reason → Answer
answer_said (Ok n) = record { reason = 0; number = unwrap_or n 0 }
answer_said (Err r) = record { reason = reason_number r; number = 0 }

abbrev pub stepped : Month → Result (Option ℕ) Reason → Stepped
stepped m r = record { month = m; answer = answer_said r }

-- the same of a step that is given the month, and has it back only where it is done
abbrev pub step_said : Month → Result Done Reason → Stepped
step_said m (Ok d) = stepped d.month (Ok d.number)
step_said m (Err r) = stepped m (Err r)
