-- `whole_in` meets its contract: the list is cut at its places, and each part says of its own numbers what the list says there. Assumes nothing.
use Rattle.std.proofs.Common.{◌≡◌, ◌/◌, length, take, drop, length-drop, rules, arith, ap, ◌∙◌}
use Rattle.std.specs.Simd.{first_chunks}
use Rattle.boundary.specs.Numbers.{book_places}
use Rattle.boundary.proofs.Said.{rest, wrong_length, no_month, no_accounts, no_ledger, all_read}
use Rattle.boundary.proofs.reading.whole_in.Goals as goal

pub returns-in_err-numbers : goal.returns-in_err-numbers
returns-in_err-numbers c = c.from_residual.ensures ∙ wrong_length c.args.book.now c.in_err-numbers.ensures.cases

pub returns-in_err-read : goal.returns-in_err-read
returns-in_err-read c =
    let ns = c.args.book.now in
    let long : length ns ≡ book_places = search rules in
    let head : c.in_ok-month.month.now ≡ take 12 ns = search rules in
    c.from_residual-in_err-read.ensures ∙ no_month ns long c.in_ok-month.month.now head c.in_err-read.ensures

pub returns-in_err-read_table : goal.returns-in_err-read_table
returns-in_err-read_table c =
    let ns = c.args.book.now in
    let long : length ns ≡ book_places = search rules in
    let head : c.in_ok-month.month.now ≡ take 12 ns = search rules in
    let table : c.in_ok-as_array.field-0.now ≡ first_chunks 4 32 (take 128 (drop 12 ns)) = search rules in
    c.from_residual-in_err-read_table.ensures
    ∙ no_accounts ns long c.in_ok-month.month.now head c.in_ok-read.field-0 c.in_ok-read.ensures c.in_ok-as_array.field-0.now table c.in_err-read_table.ensures

pub returns-in_err-read_table-2 : goal.returns-in_err-read_table-2
returns-in_err-read_table-2 c =
    let ns = c.args.book.now in
    let long : length ns ≡ book_places = search rules in
    let head : c.in_ok-month.month.now ≡ take 12 ns = search rules in
    let table : c.in_ok-as_array.field-0.now ≡ first_chunks 4 32 (take 128 (drop 12 ns)) = search rules in
    let tail : c.in_ok-accounts.ledger.now ≡ drop 128 (drop 12 ns) = search rules in
    let long_tail : length c.in_ok-accounts.ledger.now ≡ 1280 = ap length tail ∙ simp length-drop (omega arith) in
    let cut : c.in_ok-as_array-2.field-0.now ≡ c.as_chunks-2.result.0.now = search rules in
    let entries : c.in_ok-as_array-2.field-0.now ≡ first_chunks 5 256 (drop 128 (drop 12 ns)) =
    cut ∙ c.as_chunks-2.ensures.front ∙ (λ i. first_chunks 5 (long_tail i / 5) (tail i)) in
    c.from_residual-in_err-read_table-2.ensures
    ∙ no_ledger ns long c.in_ok-month.month.now head c.in_ok-read.field-0 c.in_ok-read.ensures c.in_ok-as_array.field-0.now table
    c.in_ok-read_table.field-0 c.in_ok-read_table.ensures c.in_ok-as_array-2.field-0.now (entries ∙ ap (first_chunks 5 256) (rest ns long)) c.in_err-read_table-2.ensures

pub returns : goal.returns
returns c =
    let ns = c.args.book.now in
    let long : length ns ≡ book_places = search rules in
    let head : c.in_ok-month.month.now ≡ take 12 ns = search rules in
    let table : c.in_ok-as_array.field-0.now ≡ first_chunks 4 32 (take 128 (drop 12 ns)) = search rules in
    let tail : c.in_ok-accounts.ledger.now ≡ drop 128 (drop 12 ns) = search rules in
    let long_tail : length c.in_ok-accounts.ledger.now ≡ 1280 = ap length tail ∙ simp length-drop (omega arith) in
    let cut : c.in_ok-as_array-2.field-0.now ≡ c.as_chunks-2.result.0.now = search rules in
    let entries : c.in_ok-as_array-2.field-0.now ≡ first_chunks 5 256 (drop 128 (drop 12 ns)) =
    cut ∙ c.as_chunks-2.ensures.front ∙ (λ i. first_chunks 5 (long_tail i / 5) (tail i)) in
    all_read ns long c.in_ok-month.month.now head c.in_ok-read.field-0 c.in_ok-read.ensures c.in_ok-as_array.field-0.now table
    c.in_ok-read_table.field-0 c.in_ok-read_table.ensures c.in_ok-as_array-2.field-0.now (entries ∙ ap (first_chunks 5 256) (rest ns long))
    c.in_ok-read_table-2.field-0 c.in_ok-read_table-2.ensures
