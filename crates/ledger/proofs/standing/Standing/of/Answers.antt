-- A book that may be used has every number inside its limits.
use Rattle.sound.specs.Check.{book_from}
use Rattle.ledger.proofs.Fitting.{month_fits_lem, levels_fit_lem, account_fits_lem, totals_fit}
use Rattle.ledger.proofs.standing.Standing.of.Goals as goal

pub invariant_of-result : goal.invariant_of-result
invariant_of-result c =
    let parts = c.requires in
    let b = book_from c.args.month c.args.accounts.now c.args.levels.now parts.ledger in
    record {
      month_fits = month_fits_lem b parts.ready.0;
      levels_fit = levels_fit_lem b parts.ready.0;
      account_fits = rw c.get.ensures (account_fits_lem b parts.ready.0 c.args.participant);
      totals_fit = rw c.totals_of.ensures ((totals_fit b c.args.totals.now parts.ready.0 parts.ready.1).low c.args.participant);
    }
