-- Lines of document 01's worked example, as the definitions have them. Assumes nothing.
use mathlib.Core.Path.{◌≡◌, refl}
use mathlib.Core.List.{[], ◌∷◌}
use Rattle.text.specs.Lines.{written, decimal, after, row, answer_line, figures_line, refusal_line}

-- `8 0 1`: the record in place 8 is done, and gives number 1
submitted : answer_line 8 0 1 ≡ 56 ∷ 32 ∷ 48 ∷ 32 ∷ 49 ∷ 10 ∷ []
unfolding answer_line row after decimal written
submitted = refl

-- `S 0 10000 9000 0 1000 0 0 0 0`
settled : figures_line 0 (10000 ∷ 9000 ∷ 0 ∷ 1000 ∷ 0 ∷ 0 ∷ 0 ∷ 0 ∷ [])
    ≡ 83 ∷ 32 ∷ 48 ∷ 32 ∷ 49 ∷ 48 ∷ 48 ∷ 48 ∷ 48 ∷ 32 ∷ 57 ∷ 48 ∷ 48 ∷ 48 ∷ 32 ∷ 48 ∷ 32 ∷ 49 ∷ 48 ∷ 48 ∷ 48 ∷ 32 ∷ 48 ∷ 32 ∷ 48 ∷ 32 ∷ 48 ∷ 32 ∷ 48 ∷ 10 ∷ []
unfolding figures_line row after decimal written
settled = refl

-- `X 2`: empty input
refused : refusal_line 2 ≡ 88 ∷ 32 ∷ 50 ∷ 10 ∷ []
unfolding refusal_line row after decimal written
refused = refl
