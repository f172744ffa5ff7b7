-- What the code may take for granted of a sound book's numbers, and of the totals that a run keeps beside its ledger. Assumes nothing.
use Rattle.std.specs.Prelude.{◌≡◌, true, List, ℕ, ◌+◌, ◌^◌, ◌≤◌, ◌<◌, nat_abs, length, get_or}
use Rattle.book.specs.declared.Month.{Month}
use Rattle.book.specs.declared.Account.{Account}
use Rattle.book.specs.declared.Allocation.{Allocation}
use Rattle.book.specs.Book.{Book, no_allocation, most_days, most_level, most_quantity, most_net, most_figure, most_price, participants, level_places}
use Rattle.book.specs.Words.{total, pending_in, accepted_in, received_in}
use Rattle.book.specs.Run.{usable}
use Rattle.reasons.specs.Parts.{pends, counts}
use Rattle.sound.specs.declared.made.Totals.{Totals}
use Rattle.sound.specs.Check.{no_totals}

-- the table of levels, each at most 10,000,000
pub record LevelsFit (lv : List ℕ) : Type 0 where
  pub long : length lv ≡ level_places
  pub low : (i : ℕ) → i < level_places → get_or lv i 0 ≤ most_level

-- the totals of one participant, each at most 640,000,000
pub record SumsFit (s : Totals) : Type 0 where
  pub pending : s.pending.0 ≤ most_net
  pub made : s.made.0 ≤ most_net
  pub received : s.received.0 ≤ most_net

-- those of every participant
pub record TotalsFit (ts : List Totals) : Type 0 where
  pub long : length ts ≡ participants
  pub low : (p : ℕ) → SumsFit (get_or ts p no_totals)

-- the totals are those of a ledger
pub record Totalled (ts : List Totals) (ledger : List Allocation) : Type 0 where
  pub long : length ts ≡ participants
  pub pending : (p : ℕ) → p < participants → (get_or ts p no_totals).pending.0 ≡ total (pending_in p) ledger
  pub made : (p : ℕ) → p < participants → (get_or ts p no_totals).made.0 ≡ total (accepted_in p) ledger
  pub received : (p : ℕ) → p < participants → (get_or ts p no_totals).received.0 ≡ total (received_in p) ledger

-- a book that may be used, beside the totals of its ledger
abbrev pub Ready : Book → List Totals → Type 0
Ready b ts = (usable b ≡ true) × Totalled ts b.ledger

-- the numbers of a month and of an account that the margin test multiplies
pub record MonthFits (m : Month) : Type 0 where
  pub days : m.days ≤ most_days
  pub price : nat_abs m.price.0 ≤ most_price

pub record AccountFits (a : Account) : Type 0 where
  pub figure : nat_abs a.margin.figure.0 ≤ most_figure
  pub net : nat_abs a.margin.net.0 ≤ most_net

-- what a record gave is in a total, and what it gives now has room there
pub record Moves (gave gives total : ℕ) : Type 0 where
  pub held : gave ≤ total
  pub room : total + gives < 2 ^ 32

-- the same of the totals of its generator and its customer, where it is replaced by one of the same parties, or an empty one is filled
pub record TotalsMove (ts : List Totals) (old new : Allocation) : Type 0 where
  pub generator : new.generator < length ts
  pub customer : new.customer < length ts
  pub pending : Moves (pends old) (pends new) (get_or ts new.generator no_totals).pending.0
  pub made : Moves (counts old) (counts new) (get_or ts new.generator no_totals).made.0
  pub received : Moves (counts old) (counts new) (get_or ts new.customer no_totals).received.0

-- what a cut rests on: quantities inside their limit, and fewer credits than the generator's accepted total
pub record CutFits (generator credits : ℕ) (ledger : List Allocation) : Type 0 where
  pub quantities : (i : ℕ) → (get_or ledger i no_allocation).quantity.0 ≤ most_quantity
  pub fewer : credits < total (accepted_in generator) ledger
