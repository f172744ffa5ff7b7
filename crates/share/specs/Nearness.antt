-- How near a list of shares is to the exact ones, and what is promised of `share_of` (01, "The operator's cut"; 02, R-10,
-- R-11 and R-13). Distances are multiplied by the total of the weights, so that all of them are whole numbers.
use Rattle.std.specs.Prelude.{◌≡◌, ◌≢◌, List, ℕ, ◌+◌, ◌-◌, ◌*◌, ◌≤◌, ◌<◌, length}
use Rattle.share.specs.Totals.{at, total, sum_to, largest}
use Rattle.share.specs.Shares.{exact}

-- The distance of two numbers.
abbrev pub apart : ℕ → ℕ → ℕ
apart a b = (a - b) + (b - a)

-- How far the share of i in x is from its exact share.
abbrev pub miss : List ℕ → ℕ → List ℕ → ℕ → ℕ
miss w c x i = apart (total w * at x i) (exact w c i)

-- The sum of the distances.
unfoldable pub distance : List ℕ → ℕ → List ℕ → ℕ
distance w c x = sum_to (length w) (miss w c x)

-- The sum of the squared distances.
unfoldable pub squares : List ℕ → ℕ → List ℕ → ℕ
squares w c x = sum_to (length w) (λ i. miss w c x i * miss w c x i)

-- The largest distance.
unfoldable pub farthest : List ℕ → ℕ → List ℕ → ℕ
farthest w c x = largest (length w) (miss w c x)

-- y shares c out over w in some way: a share for each weight, and c in all.
pub record SharesOut (w : List ℕ) (c : ℕ) (y : List ℕ) : Type 0 where
  pub long : length y ≡ length w
  pub whole : total y ≡ c

-- At the lowest index where x and y differ, x is the larger.
abbrev pub LargerFirst : List ℕ → List ℕ → Type 0
LargerFirst x y = (k : ℕ) → ((i : ℕ) → i < k → at x i ≡ at y i) → at x k ≢ at y k → at y k < at x k

-- x shares c out over w, no list that does is nearer, and of those as near x is the larger at the first difference.
pub record Nearest (w : List ℕ) (c : ℕ) (x : List ℕ) : Type 0 where
  pub shares : SharesOut w c x
  pub near : (y : List ℕ) → SharesOut w c y → distance w c x ≤ distance w c y
  pub ties : (y : List ℕ) → SharesOut w c y → distance w c y ≡ distance w c x → LargerFirst x y

-- All that is promised of the shares x: they are the nearest and the only such, none is above its weight unless the
-- amount is above the total, a weight of 0 has share 0, and they are best by the two other measures.
pub record Promise (w : List ℕ) (c : ℕ) (x : List ℕ) : Type 0 where
  pub nearest : Nearest w c x
  pub only : (y : List ℕ) → Nearest w c y → y ≡ x
  pub within : c ≤ total w → (i : ℕ) → at x i ≤ at w i
  pub weightless : (i : ℕ) → at w i ≡ 0 → at x i ≡ 0
  pub squared : (y : List ℕ) → SharesOut w c y → squares w c x ≤ squares w c y
  pub worst : (y : List ℕ) → SharesOut w c y → farthest w c x ≤ farthest w c y
