-- `check` meets its contract. Where the lengths are right the accounts are copied whole, and the tests of what is lent are the definition's (`Fits`); where
-- they are not, the fresh book's accounts and totals are handed back. Assumes nothing.
use Rattle.std.proofs.Common.{◌≡◌, refl, sym, ap, ◌∙◌, Bool, true, false, ◌&&◌, cond, length, subst, rules}
use Rattle.book.specs.Book.{Book, fresh}
use Rattle.book.specs.Sound.{right_lengths, sound}
use Rattle.sound.specs.declared.test.Checked.{Checked}
use Rattle.sound.specs.Check.{book_from, lengths_fit, CappedTotals}
use Rattle.sound.specs.Checking.{Checks}
use Rattle.sound.proofs.Fits.{checked}
use Rattle.sound.proofs.test.check.Goals as goal
use borrow.Author.Tests.{eq-eqb}

-- the four windows have their length by their type
lengths_same : (b : Book) → length b.month.windows ≡ 4 → lengths_fit b ≡ right_lengths b
unfolding right_lengths
lengths_same b e = rw (eq-eqb (length b.month.windows) 4 e)

-- what is handed back, where the lengths are right and where they are not
checks : (b : Book) (r : Checked) (t : Bool) → right_lengths b ≡ t → r.usable ≡ (t && sound b) → r.accounts ≡ cond t b.accounts fresh.accounts
    → CappedTotals r.totals (cond t b.ledger fresh.ledger) → Checks b r
checks b r t h u a c = record {
  usable_is = u ∙ sym (ap (λ t. t && sound b) h);
  accounts_are = a ∙ sym (ap (λ t. cond t b.accounts fresh.accounts) h);
  totals_are = subst (CappedTotals r.totals) (sym (ap (λ t. cond t b.ledger fresh.ledger) h)) c;
}

pub returns-then-has_right_lengths : goal.returns-then-has_right_lengths
returns-then-has_right_lengths c =
    let b = book_from c.args.month c.args.accounts.now c.args.levels.now c.args.ledger.now in
    let asked = sym c.has_right_lengths.ensures ∙ c.if-has_right_lengths.true in
    checks b _ true
    (sym (lengths_same b (search rules)) ∙ asked)
    (c.is_sound.ensures ∙ checked b asked c.totals-sums.result c.totals-sums.ensures)
    c.copy_from_slice.ensures.after
    c.totals-sums.ensures

pub returns-else-has_right_lengths : goal.returns-else-has_right_lengths
returns-else-has_right_lengths c =
    let b = book_from c.args.month c.args.accounts.now c.args.levels.now c.args.ledger.now in
    checks b _ false
    (sym (lengths_same b (search rules)) ∙ sym c.has_right_lengths.ensures ∙ c.if-has_right_lengths.false)
    refl
    c.fresh_accounts-own.ensures
    (subst (CappedTotals c.totals.result) c.fresh_ledger.ensures c.totals.ensures)
