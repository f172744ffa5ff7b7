-- Credits from a table of levels: of kinds 1 and 2 what a participant can trade, of kind 4 its DSM. Assumes nothing.
use Rattle.std.specs.Prelude.{Bool, cond, ◌&&◌, List, ℕ, ◌/◌, eqb, leb, ltb, length}
use Rattle.book.specs.Book.{participants, most_days, level_places}
use Rattle.book.specs.Words.{level_in, over_days, tradeable_in}

-- the levels of a kind summed over days 1 to d
abbrev pub credit_days : List ℕ → ℕ → ℕ → ℕ → ℕ
credit_days lv d p kind = over_days d (level_in lv p kind)

-- DSM
unfoldable pub dsm_in : List ℕ → ℕ → ℕ → ℕ
dsm_in lv d p = credit_days lv d p 4 / d

-- the table has its length, and in it a row of so many days for the participant
abbrev pub has_row : List ℕ → ℕ → ℕ → Bool
has_row lv d p = eqb (length lv) level_places && (leb d most_days && ltb p participants)

-- where there is no such row, 0
unfoldable pub tradeable_at : List ℕ → ℕ → ℕ → ℕ
tradeable_at lv d p = cond (has_row lv d p) (tradeable_in lv d p) 0

unfoldable pub dsm_at : List ℕ → ℕ → ℕ → ℕ
dsm_at lv d p = cond (has_row lv d p) (dsm_in lv d p) 0
