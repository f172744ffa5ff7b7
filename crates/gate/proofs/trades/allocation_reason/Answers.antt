-- `trades::allocation_reason` meets its contract: what each kind that names an allocation is refused for stands in the table in that order (`named`).
-- Assumes nothing.
use Rattle.std.proofs.Common.{◌≡◌, refl, rules}
use Rattle.units.specs.declared.Thousandths.{Thousandths}
use Rattle.book.specs.Book.{SUBMITTED, ACCEPTED, REVERSAL_ASKED}
use Rattle.book.specs.Reasons.{has}
use Rattle.reasons.proofs.Chain.{lines, first_first}
use Rattle.gate.specs.declared.Trade.TheVariants.{Withdraw, Accept, AskReversal, AgreeReversal, Amend}
use Rattle.gate.specs.Shared.{in_window, to_accept, to_amend}
use Rattle.gate.proofs.Chains.{opened, Named, named}
use Rattle.gate.proofs.trades.allocation_reason.Goals as goal

withdraw : Named Withdraw (λ l. l.generator) (λ m t l. in_window 3 (has SUBMITTED l) m t)
unfolding opened
withdraw = record { names = λ n. refl; on = λ b p n t. simp first_first (simp lines) }

accept : Named Accept (λ l. l.customer) to_accept
unfolding opened
accept = record { names = λ n. refl; on = λ b p n t. simp first_first (simp lines) }

ask : Named AskReversal (λ l. l.generator) (λ m t l. in_window 4 (has ACCEPTED l) m t)
unfolding opened
ask = record { names = λ n. refl; on = λ b p n t. simp first_first (simp lines) }

agree : Named AgreeReversal (λ l. l.customer) (λ m t l. in_window 4 (has REVERSAL_ASKED l) m t)
unfolding opened
agree = record { names = λ n. refl; on = λ b p n t. simp first_first (simp lines) }

amend : (q : Thousandths) → Named (λ n. Amend n q) (λ l. l.generator) (λ _ _ l. to_amend q l)
unfolding opened
amend q = record { names = λ n. refl; on = λ b p n t. simp first_first (simp lines) }

pub returns-in-Withdraw : goal.returns-in-Withdraw
returns-in-Withdraw c =
    let a = c.args in
    let has_it : c.eq-submitted.result ≡ has SUBMITTED a.here = search rules in
    named withdraw a.m a.roles a.customers a.here a.x c.in-Withdraw.number c.in-Withdraw.is (rw (← has_it, c.timed.ensures))

pub returns-in-Accept : goal.returns-in-Accept
returns-in-Accept c =
    let a = c.args in
    named accept a.m a.roles a.customers a.here a.x c.in-Accept.number c.in-Accept.is c.accept.ensures

pub returns-in-AskReversal : goal.returns-in-AskReversal
returns-in-AskReversal c =
    let a = c.args in
    let has_it : c.eq-accepted.result ≡ has ACCEPTED a.here = search rules in
    named ask a.m a.roles a.customers a.here a.x c.in-AskReversal.number c.in-AskReversal.is (rw (← has_it, c.timed-in-AskReversal.ensures))

pub returns-after-matches : goal.returns-after-matches
returns-after-matches c =
    let a = c.args in
    let has_it : c.match-matches.matches ≡ has REVERSAL_ASKED a.here = search rules in
    named agree a.m a.roles a.customers a.here a.x c.in-AgreeReversal.number c.in-AgreeReversal.is (rw (← has_it, c.timed-in-AgreeReversal.ensures))

pub returns-in-Amend : goal.returns-in-Amend
returns-in-Amend c =
    let a = c.args in
    named (amend c.in-Amend.quantity) a.m a.roles a.customers a.here a.x c.in-Amend.number c.in-Amend.is c.amend.ensures
