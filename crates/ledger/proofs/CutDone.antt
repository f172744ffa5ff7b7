-- A cut on a sound book. Let in at the door its generator is registered, so that it has its accepted total, and reason 15 is left to judge (`cut_judged`).
-- Where no reason applies the ledger is whole and can be cut (`cut_fits`), and the book that is left is sound, so that the capped totals of its ledger are
-- the true ones (`cut_done`). Assumes nothing.
use mathlib.Core.Path.{◌≡◌, refl, sym, ap, ◌∙◌}
use mathlib.Core.List.{List}
use Prim.Native.Nat.{ℕ, ◌-◌}
use native.Mathlib.Omega.{arith}
use lib.ListN.{length}
use lib.Dec.{eqb}
use borrow.Author.Tests.{eqb-true, eqb-false}
use Rattle.std.specs.Prelude.{Some, None, Ok}
use Rattle.book.specs.declared.Account.{Account}
use Rattle.book.specs.declared.Allocation.{Allocation}
use Rattle.book.specs.Book.{Book, most_given}
use Rattle.book.specs.Words.{tradeable_in, tradeable, excess}
use Rattle.book.specs.Reasons.{early, late, lowest, reason_of, reason5, reason12, reason13, reason14, reason15}
use Rattle.book.specs.Cut.{cut}
use Rattle.book.specs.Steps.{at_minute, written, done, number_given, book_of}
use Rattle.book.proofs.NoReason.{no_reason}
use Rattle.book.proofs.Keeps.{keeps}
use Rattle.reasons.specs.Chain.{when, first}
use Rattle.reasons.proofs.Chain.{either_way}
use Rattle.gate.specs.declared.CutStep.{CutStep}
use Rattle.gate.specs.Rooms.{cut_step}
use Rattle.gate.proofs.Split.{at_door, let_in}
use Rattle.sound.specs.Check.{book_from, CappedTotals}
use Rattle.sound.specs.declared.made.Totals.{Totals}
use Rattle.ledger.specs.declared.standing.Standing.{Standing}
use Rattle.ledger.specs.Ready.{Ready, CutFits}
use Rattle.ledger.specs.Judging.{totals_at, StandsAt, JudgedCut}
use Rattle.ledger.specs.Writing.{stepped}
use Rattle.ledger.specs.Rooms.{DoesStep}
use Rattle.ledger.proofs.Doing.{does}
use Rattle.ledger.proofs.Fitting.{quantity_low, totalled, ledger_long, registered_below}
use Rattle.ledger.proofs.Passed.{passed}

module _ (b : Book) (ts : List Totals) (ready : Ready b ts) (x : CutStep) where
  -- ---- its reason
  -- reason 15, from the totals
  abbrev no_excess : ℕ
  no_excess = when (eqb ((totals_at ts x.generator).made.0 - tradeable b x.generator) 0) 15

  late_is : lowest early b (cut_step x) ≡ 0 → no_excess ≡ lowest late b (cut_step x)
  unfolding when reason5 reason12 reason13 reason14 reason15
  late_is e =
      let p = passed b (cut_step x) e in
      let below = registered_below b ready.0 x.generator p.no5 in
      rw (ready.1.made x.generator below)

  -- judged by how its generator stands
  pub cut_judged : {s : Standing} {credits n : ℕ} → StandsAt b.month b.accounts b.levels ts x.generator s → credits ≡ tradeable_in s.levels.now s.month.days x.generator → JudgedCut s credits x n
      → n ≡ reason_of b (cut_step x)
  unfolding first
  cut_judged at e h =
      h b (sym at.month_is) (ap (λ (y : Account). y.roles) (sym at.account_is))
      ∙ either_way (eqb (lowest early b (cut_step x)) 0)
      (λ z. rw (z, e, at.totals_are, at.levels_are, at.month_is) (late_is (eqb-true (lowest early b (cut_step x)) 0 z) ∙ let_in b (cut_step x) _ refl z))
      (λ z. rw z (at_door b (cut_step x) _ refl z))

  pub credits_are : {s : Standing} {credits : ℕ} → StandsAt b.month b.accounts b.levels ts x.generator s → credits ≡ tradeable_in s.levels.now s.month.days x.generator → credits ≡ tradeable b x.generator
  credits_are at e = e ∙ rw (at.levels_are, at.month_is)

  -- ---- what it leaves, where no reason applies
  module _ (is : 0 ≡ reason_of b (cut_step x)) {credits : ℕ} (e-credits : credits ≡ tradeable b x.generator) where
    pub cut_fits : (length b.ledger ≡ most_given) × CutFits x.generator credits b.ledger
    unfolding reason15
    cut_fits = (
      ledger_long b ready.0,
      rw e-credits (record {
        quantities = quantity_low b ready.0;
        fewer = omega (arith, eqb-false (excess b x.generator) 0 (no_reason b (cut_step x) (sym is)).no15);
      }),
    )

    -- the ledger is cut, and the totals are worked out anew
    pub cut_done : {ledger : List Allocation} {sums ts' : List Totals} → ledger ≡ cut x.generator credits b.ledger → CappedTotals sums ledger → ts' ≡ sums
        → DoesStep b (Some (cut_step x)) (stepped (at_minute x.at b.month) (Ok None)) b.accounts b.levels ledger ts'
    unfolding done written number_given book_of
    cut_done {ledger = ledger} {sums = sums} e-ledger totals e-ts =
        let left : book_from (at_minute x.at b.month) b.accounts b.levels ledger ≡ done b (cut_step x) = rw (e-ledger, e-credits) in
        let sound = rw (← is, ← left) at (keeps b (cut_step x) ready.0) in
        rw e-ts (does b (cut_step x) is (at_minute x.at b.month) None left refl (totalled (book_from (at_minute x.at b.month) b.accounts b.levels ledger) sums sound totals))
