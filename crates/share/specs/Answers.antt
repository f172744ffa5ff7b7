-- How a request to share ends: the answer, and what the lent shares are afterwards. A request that is not shared leaves
-- them as they were. Every request has one answer, the first in the order of the tests.
use Rattle.std.specs.Prelude.{Bool, cond, not, ◌&&◌, List, ℕ, ◌+◌, ◌*◌, ◌^◌, leb, ltb, eqb, length, Result, Ok, Err}
use Rattle.share.specs.declared.Unshared.{Unshared}
use Rattle.share.specs.declared.Unshared.TheVariants.{LengthsDiffer, TooLarge, NoWeight}
use Rattle.share.specs.Totals.{at, total, largest}
use Rattle.share.specs.Shares.{share_of}

-- What a request multiplies and adds has to stay below this, so that it fits 64 bits.
abbrev pub limit : ℕ
limit = 2 ^ 63

-- The largest weight times the amount, with the total of the weights, reaches the limit.
unfoldable pub too_large : List ℕ → ℕ → Bool
too_large w c = leb limit (largest (length w) (at w) * c + total w)

-- There is something to share, and no weight to share it by.
unfoldable pub no_weight : List ℕ → ℕ → Bool
no_weight w c = ltb 0 c && eqb (total w) 0

-- The answer, where n shares are lent.
unfoldable pub answer_of : List ℕ → ℕ → ℕ → Result (Unit {0}) Unshared
answer_of w c n =
    cond (not (eqb n (length w))) (Err LengthsDiffer) (cond (too_large w c) (Err TooLarge) (cond (no_weight w c) (Err NoWeight) (Ok tt)))

-- The new shares where the request is shared, and else the old ones.
unfoldable pub settled : Result (Unit {0}) Unshared → List ℕ → List ℕ → List ℕ
settled (Ok _) new old = new
settled (Err _) new old = old

-- The lent shares x afterwards.
unfoldable pub shares_after : List ℕ → ℕ → List ℕ → List ℕ
shares_after w c x = settled (answer_of w c (length x)) (share_of w c) x
