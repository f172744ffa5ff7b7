-- Three cuts worked out, the shares of 01's cases E, F and G: the definition computes to each.
use mathlib.Core.Path.{◌≡◌, refl}
use mathlib.Core.List.{[], ◌∷◌}
use Rattle.share.specs.Totals.{total, largest, first_largest}
use Rattle.share.specs.Shares.{floors, spare, claim, next, give_one, give, share_of}

-- E: two units, and of three equal remainders the lower indices first.
pub thirds : share_of (10 ∷ 10 ∷ 10 ∷ []) 20 ≡ 7 ∷ 7 ∷ 6 ∷ []
unfolding share_of give give_one next claim spare floors first_largest largest total
thirds = refl

-- F: two units to the two largest remainders.
pub uneven : share_of (50 ∷ 30 ∷ 20 ∷ []) 33 ≡ 16 ∷ 10 ∷ 7 ∷ []
unfolding share_of give give_one next claim spare floors first_largest largest total
uneven = refl

-- G: nothing to share.
pub nothing : share_of (30 ∷ 20 ∷ []) 0 ≡ 0 ∷ 0 ∷ []
unfolding share_of give give_one next claim spare floors first_largest largest total
nothing = refl
