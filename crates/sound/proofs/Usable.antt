-- What a check that has passed gives: a usable book's tables have their lengths, so that its own accounts and the totals of its own ledger were handed
-- back. Assumes nothing.
use mathlib.Core.Path.{◌≡◌, ap, sym, subst, ◌∙◌}
use mathlib.Core.Bool.{true, cond}
use Rattle.book.specs.Book.{Book, fresh}
use Rattle.book.specs.Sound.{right_lengths}
use Rattle.book.proofs.Tests.{parts}
use Rattle.sound.specs.declared.test.Checked.{Checked}
use Rattle.sound.specs.Check.{CappedTotals}
use Rattle.sound.specs.Checking.{Checks}

module _ (b : Book) (r : Checked) (c : Checks b r) (h : r.usable ≡ true) where
  right : right_lengths b ≡ true
  right = let u = sym c.usable_is ∙ h in search parts

  pub usable_accounts : r.accounts ≡ b.accounts
  usable_accounts = c.accounts_are ∙ ap (λ x. cond x b.accounts fresh.accounts) right

  pub usable_totals : CappedTotals r.totals b.ledger
  usable_totals = subst (CappedTotals r.totals) (ap (λ x. cond x b.ledger fresh.ledger) right) c.totals_are
