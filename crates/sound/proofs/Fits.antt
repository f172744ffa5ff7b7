-- The test of a lent book as the code makes it is `sound` (`checked`): each table passes whole exactly where each of its places does, and a capped total
-- passes its test exactly where the true one does. Assumes nothing.
use mathlib.Core.Path.{◌≡◌, ◌∙◌}
use mathlib.Core.Bool.{true, ◌&&◌, ◌||◌}
use mathlib.Core.List.{List}
use Prim.Native.Nat.{ℕ, ◌+◌, ◌/◌, ◌%◌}
use native.Mathlib.Omega.{arith}
use lib.Dec.{eqb, leb}
use lib.ListN.{length, get_or}
use borrow.Author.Tests.{eqb-true}
use Rattle.std.proofs.lemmas.Bool.Decides.{nat_tests}
use Rattle.units.specs.Capped.{capped}
use Rattle.book.specs.declared.Allocation.{Allocation}
use Rattle.book.specs.Book.{Book, no_account, no_allocation, participants, most_given, most_quantity, level_places}
use Rattle.book.specs.Words.{total, pending_in, accepted_in}
use Rattle.book.specs.Sound.{each, is_no_month, is_no_account, is_no_allocation, is_fresh, month_sound, account_sound, level_sound, given_sound, record_sound, open_sound, sound}
use Rattle.book.proofs.Tests.{parts}
use Rattle.sound.specs.declared.made.Totals.{Totals}
use Rattle.sound.specs.Check.{no_totals, lengths_fit, fresh_fits, open_fits, most_on, levels_fit, given_fits, record_fits, records_fit, held_fits, CappedTotals}
use Rattle.sound.proofs.Whole.{same_each, all_each, all_numbered, all_rows}

-- ---- a level, on a day of the month or after it
level_test : (days place level : ℕ) → leb level (most_on days (place % 31)) ≡ level_sound days place level
unfolding level_sound
level_test days place level = grind (arith, nat_tests)

levels_same : (days : ℕ) (lv : List ℕ) → length lv ≡ level_places → levels_fit days lv ≡ each level_places (λ i. level_sound days i (get_or lv i 0))
levels_same days lv long =
    let rows : length lv / 31 ≡ 128 = omega (arith, long) in
    rw rows (all_rows (λ day level. leb level (most_on days day)) lv 0 128 31 long) ∙ same_each level_places _ _ (λ i o. level_test days i (get_or lv i 0))

-- ---- two capped totals against a limit below the cap
held_test : (x y : ℕ) → leb (capped (capped x + capped y)) most_quantity ≡ leb (x + y) most_quantity
held_test x y = grind (arith, nat_tests)

held_same : (ts : List Totals) (ledger : List Allocation) → CappedTotals ts ledger → held_fits ts ≡ each participants (λ p. leb (total (pending_in p) ledger + total (accepted_in p) ledger) most_quantity)
held_same ts ledger c =
    all_each (λ t. leb (capped (t.pending.0 + t.made.0)) most_quantity) ts no_totals participants c.long
    ∙ same_each participants _ _ (λ p o. (λ k. leb (capped (c.pending p o k + c.made p o k)) most_quantity) ∙ held_test (total (pending_in p) ledger) (total (accepted_in p) ledger))

-- ---- the whole test
module _ (b : Book) (l : lengths_fit b ≡ true) where
  people : length b.accounts ≡ participants
  people = search (parts, eqb-true)

  places : length b.levels ≡ level_places
  places = search (parts, eqb-true)

  records : length b.ledger ≡ most_given
  records = search (parts, eqb-true)

  fresh_same : fresh_fits b ≡ is_fresh b
  unfolding is_fresh
  fresh_same =
      λ k. is_no_month b.month && (all_each is_no_account b.accounts no_account participants people k
      && (all_each (λ l. eqb l 0) b.levels 0 level_places places k && all_each is_no_allocation b.ledger no_allocation most_given records k))

  records_same : records_fit b.month.given b.accounts b.ledger ≡ each most_given (record_sound b)
  unfolding given_fits given_sound
  records_same = all_numbered (record_fits b.month.given b.accounts) b.ledger no_allocation most_given records

  open_same : (ts : List Totals) → CappedTotals ts b.ledger → open_fits b ts ≡ open_sound b
  unfolding open_sound
  open_same ts c =
      λ k. month_sound b.month && (all_each account_sound b.accounts no_account participants people k
      && (levels_same b.month.days b.levels places k && (records_same k && held_same ts b.ledger c k)))

  pub checked : (ts : List Totals) → CappedTotals ts b.ledger → (fresh_fits b || open_fits b ts) ≡ sound b
  unfolding sound
  checked ts c = λ k. fresh_same k || open_same ts c k
