-- The settlement desk's second question, as a function answers it (`Measures`): how far the accepted quantities of a generator after a cut lie from the
-- exact shares, by the distances of share's `Nearness`. Assumes nothing.
use Rattle.std.specs.Prelude.{◌≡◌, Bool, cond, ◌&&◌, List, map, ℕ, ◌≤◌, ◌<◌, leb, length}
use Rattle.share.specs.Totals.{at, total}
use Rattle.share.specs.Nearness.{miss, distance}
use Rattle.book.specs.declared.Allocation.{Allocation}
use Rattle.book.specs.Book.{most_quantity}
use Rattle.book.specs.Words.{accepted_in}
use Rattle.audit.specs.declared.nearness.Measured.{Measured}

-- a generator's accepted quantities, one for each record; 0 for a record that is none of them
abbrev pub quantities_of : ℕ → List Allocation → List ℕ
quantities_of g ledger = map (accepted_in g) ledger

-- both totals are at most 20,000,000, as those of a sound book are
unfoldable pub comparable : List ℕ → List ℕ → Bool
comparable w x = leb (total w) most_quantity && leb (total x) most_quantity

-- the same as two facts
pub record Comparable (w x : List ℕ) : Type 0 where
  pub before : total w ≤ most_quantity
  pub after : total x ≤ most_quantity

-- the distance of each
pub record MissEach (w : List ℕ) (c : ℕ) (x each : List ℕ) : Type 0 where
  pub long : length each ≡ 256
  pub is : (i : ℕ) → i < 256 → at each i ≡ miss w c x i

-- what is measured of quantities w that were cut to x, where the credits were c; nothing where the totals are not comparable
pub record Measures (w : List ℕ) (c : ℕ) (x : List ℕ) (r : Measured) : Type 0 where
  pub accepted_is : r.accepted ≡ cond (comparable w x) (total w) 0
  pub long : length r.each ≡ 256
  pub each_is : (i : ℕ) → i < 256 → at r.each i ≡ cond (comparable w x) (miss w c x i) 0
  pub sum_is : r.sum ≡ cond (comparable w x) (distance w c x) 0
