-- `settled` meets its contract: each test is document 01's, in its order, on the book that was checked. Assumes nothing.
use Rattle.std.proofs.Common.{sym, ◌∙◌}
use borrow.Author.Tests.{eq-eqb, ne_eqb}
use Rattle.settlement.proofs.Books.{unusable, not_open, settleable_of, exceeded, unexceeded, list_of}
use Rattle.settlement.proofs.settling.settled.Goals as goal

pub returns-then-not-found : goal.returns-then-not-found
returns-then-not-found c = record { reason_is = sym (unusable _ c.check-found.result c.check-found.ensures c.if-not-found.true); lists = tt }

pub returns-then-month-eq0 : goal.returns-then-month-eq0
returns-then-month-eq0 c =
    record { reason_is = sym (not_open _ c.check-found.result c.check-found.ensures c.if-not-found.false (eq-eqb _ _ c.if-month-eq0.true)); lists = tt }

pub invariant_of-open : goal.invariant_of-open
invariant_of-open c =
    record { settleable = settleable_of _ c.check-found.result c.check-found.ensures c.if-not-found.false (ne_eqb _ _ c.if-month-eq0.false) }

pub returns-then-any_excess : goal.returns-then-any_excess
returns-then-any_excess c = record {
  reason_is = sym (exceeded _ c.check-found.result c.check-found.ensures c.if-not-found.false (ne_eqb _ _ c.if-month-eq0.false) (sym c.any_excess.ensures ∙ c.if-any_excess.true));
  lists = tt;
}

pub returns : goal.returns
returns c =
    let list = list_of _ c.check-found.result c.check-found.ensures c.if-not-found.false (ne_eqb _ _ c.if-month-eq0.false) in
    record {
      reason_is = sym (unexceeded _ c.check-found.result c.check-found.ensures c.if-not-found.false (ne_eqb _ _ c.if-month-eq0.false) (sym c.any_excess.ensures ∙ c.if-any_excess.false));
      lists = rw list at c.listed.ensures;
    }
