-- The figures of all registered participants, and whether one has an excess, as they are worked out from a book's month, accounts and levels and from the
-- totals of its ledger. Assumes nothing.
use Rattle.std.specs.Prelude.{Bool, true, cond, List, [], ◌∷◌, ◌++◌, map, ◌≡◌, ℕ, zero, suc, ◌-◌, ◌≤◌, ◌<◌, pos, nat_abs, length, get_or, replicate}
use Rattle.std.specs.Int.Signed.{le_z}
use Rattle.std.specs.List.{list_any, range_with_len}
use Rattle.book.specs.declared.Account.{Account}
use Rattle.book.specs.declared.Month.{Month}
use Rattle.book.specs.Book.{is_registered, no_account, participants, most_level, most_price, level_places}
use Rattle.book.specs.Settlement as book
use Rattle.sound.specs.declared.made.Totals.{Totals}
use Rattle.sound.specs.Check.{no_totals}
use Rattle.settlement.specs.declared.figures.Figures.{Figures}
use Rattle.settlement.specs.Figures.{figures_in, no_figures, figures_from, exceeds}

-- a month and levels whose numbers are inside their limits
pub record Settleable (m : Month) (lv : List ℕ) : Type 0 where
  pub price_low : le_z (pos 0) m.price.0 ≡ true
  pub price_most : nat_abs m.price.0 ≤ most_price
  pub levels_low : (i : ℕ) → i < level_places → get_or lv i 0 ≤ most_level

-- ---- a list of figures in a place for each participant; the later places are not used
abbrev pub filled : List book.Figures → List Figures
filled l = map figures_in l ++ replicate (participants - length l) no_figures

-- ---- all participants
abbrev pub figures_at : Month → List ℕ → List Account → List Totals → ℕ → book.Figures
figures_at m lv accounts ts p = figures_from m lv (get_or accounts p no_account) (get_or ts p no_totals).made.0 (get_or ts p no_totals).received.0 p

-- those below n that are registered, in order
unfoldable pub settled_from : Month → List ℕ → List Account → List Totals → ℕ → List book.Figures
settled_from m lv accounts ts zero = []
settled_from m lv accounts ts (suc n) = settled_from m lv accounts ts n ++ cond (is_registered (get_or accounts n no_account)) (figures_at m lv accounts ts n ∷ []) []

-- some generator has made more than its credits
unfoldable pub excess_from : Month → List ℕ → List Account → List Totals → Bool
excess_from m lv accounts ts = list_any (λ p. exceeds m lv (get_or accounts p no_account) (get_or ts p no_totals).made.0 p) (range_with_len 0 participants)
