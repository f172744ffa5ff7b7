-- No reason after the door's applies to OPEN or WINDOW, a window that is let in has its selector and its end inside their ranges, and the month is all
-- that is written.
use Rattle.std.proofs.Common.{◌≡◌, ℕ, [], None, refl, sym, ◌∙◌, leb-true}
use Rattle.std.proofs.lemmas.Result.{err_from_is_err_and}
use Rattle.units.specs.declared.Minutes.{Minutes}
use Rattle.book.specs.declared.Month.{Month}
use Rattle.book.specs.Book.{Book}
use Rattle.book.specs.Reasons.{late, lowest, in_range, reason12, reason13, reason14, reason15}
use Rattle.book.specs.Steps.{at_minute, with_month, written, done, number_given}
use Rattle.book.proofs.Tests.{parts}
use Rattle.sound.specs.Check.{book_from}
use Rattle.gate.specs.declared.MonthChange.{MonthChange}
use Rattle.gate.specs.declared.MonthChange.TheVariants.{Open, Window}
use Rattle.gate.specs.Rooms.{sets_month, month_step}
use Rattle.gate.specs.Doors.{ByMonth}
use Rattle.gate.proofs.Split.{no_later}
use Rattle.ledger.specs.Writing.{month_by}
use Rattle.ledger.specs.Rooms.{ChangeFits}
use Rattle.ledger.proofs.Doing.{refuses, does}
use Rattle.ledger.proofs.Passed.{passed}
use Rattle.ledger.proofs.months.month_room.Goals as goal

module _ (b : Book) (t : Minutes) where
  none_later : (x : MonthChange) → lowest late b (sets_month x t) ≡ 0
  unfolding reason12 reason13 reason14 reason15
  none_later (Open d p) = refl
  none_later (Window s e) = refl

  no_number : (x : MonthChange) → number_given b (sets_month x t) ≡ 0
  unfolding number_given
  no_number (Open d p) = refl
  no_number (Window s e) = refl

  written_is : (x : MonthChange) → with_month (λ m. at_minute t (month_by x m)) b ≡ done b (sets_month x t)
  unfolding done written
  written_is (Open d p) = refl
  written_is (Window s e) = refl

inside : (m : Month) (t : Minutes) (x : MonthChange) (n : ℕ) → ByMonth m (sets_month x t) n → n ≡ 0 → ChangeFits x
unfolding in_range
inside m t (Open d p) n h z = tt
inside m t (Window s e) n h z = let ok = (passed (book_from m [] [] []) _ (sym (h _ refl) ∙ z)).no7 in (leb-true 1 s (search parts), leb-true _ _ (search parts))

pub returns-in_err-month_reason-clause-does : goal.returns-in_err-month_reason-clause-does
returns-in_err-month_reason-clause-does c =
    let x = c.args.x in
    let p = err_from_is_err_and c.from_residual.result c.from_residual.ensures.1 in
    rw (p.1, p.2) (λ accounts lv ledger ts h.
    let b = book_from c.args.month.now accounts lv ledger in
    refuses b (month_step x) _ (no_later b _ _ (c.in_err-month_reason.ensures b refl) (none_later b x.at x.change)) ts h)

pub month_by-requires : goal.month_by-requires
month_by-requires c = inside c.args.month.now c.args.x.at c.args.x.change _ c.in_ok-month_reason.ensures refl

pub returns-clause-does : goal.returns-clause-does
returns-clause-does c accounts lv ledger ts h =
    let x = c.args.x in
    let b = book_from c.args.month.now accounts lv ledger in
    does b (month_step x) (no_later b _ _ (c.in_ok-month_reason.ensures b refl) (none_later b x.at x.change)) (at_minute x.at c.month_by.result) None
    (rw c.month_by.ensures (written_is b x.at x.change)) (rw (no_number b x.at x.change)) h
