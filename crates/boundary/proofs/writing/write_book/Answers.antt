-- `write_book` meets its contract: the three parts are written one after the other, and are the whole list. The lengths are those of the types. Assumes
-- nothing.
use Rattle.std.proofs.Common.{◌≡◌, length, ap, ◌∙◌, arith, rules, lit<}
use Rattle.std.proofs.lemmas.List.Edits.{sets}
use Rattle.std.specs.List.{flat_map}
use Rattle.book.specs.Book.{no_account, no_allocation}
use Rattle.boundary.specs.Numbers.{account_numbers, allocation_numbers}
use Rattle.boundary.proofs.Whole.{written_whole}
use Rattle.boundary.proofs.writing.write_book.Goals as goal

pub returns : goal.returns
returns c =
    let w = c.args.whole.now in
    let few : length w.accounts ≡ 32 = search rules in
    let many : length w.ledger ≡ 256 = search rules in (
      c.write_table-3.ensures.written
          ∙ ap (λ l. sets l 140 (flat_map allocation_numbers w.ledger)) c.write_table-2.ensures.written
          ∙ ap (λ l. sets (sets l 12 (flat_map account_numbers w.accounts)) 140 (flat_map allocation_numbers w.ledger)) c.write_table.ensures.written
          ∙ written_whole w.month w.accounts w.ledger few many c.args.book.now c.requires,
      record {
        month_fits = c.write_table.ensures.keeps 0 w.month (lit< tt);
        accounts_long = few;
        accounts_fit = λ p o. c.write_table-2.ensures.keeps p no_account (omega (arith, few));
        ledger_long = many;
        ledger_fits = λ i o. c.write_table-3.ensures.keeps i no_allocation (omega (arith, many));
      },
    )
