-- A line of numbers is each number but the last with a space after it, and then the last with a newline. Assumes nothing.
use mathlib.Core.Path.{◌≡◌, refl, sym, ap, ◌∙◌}
use mathlib.Core.List.{List, [], ◌∷◌, ◌++◌, append_assoc}
use Prim.Native.Nat.{ℕ, ◌+◌, ◌<◌}
use lib.ListN.{length, get_or, take}
use lib.Seq.{append_snoc}
use Rattle.std.specs.List.{flat_map}
use Rattle.std.proofs.lemmas.List.{take_more, flat_map_more}
use Rattle.text.specs.Lines.{newline, space, decimal, after, row}

-- a number with a space after it
abbrev pub spaced : ℕ → List ℕ
spaced n = decimal n ++ space ∷ []

after_more : (ns : List ℕ) (last : ℕ) → after (ns ++ last ∷ []) ≡ space
unfolding after
after_more [] last = refl
after_more (n ∷ ns) last = refl

pub row_is : (others : List ℕ) (last : ℕ) → row (others ++ last ∷ []) ≡ flat_map spaced others ++ (decimal last ++ newline ∷ [])
unfolding row after
row_is [] last = refl
row_is (n ∷ ns) last =
    (λ i. decimal n ++ after_more ns last i ∷ row_is ns last i)
    ∙ sym (append_snoc (decimal n) space (flat_map spaced ns ++ (decimal last ++ newline ∷ [])))
    ∙ sym (append_assoc (spaced n) (flat_map spaced ns) (decimal last ++ newline ∷ []))

-- one number more
pub spaced_more : (ns : List ℕ) (i : ℕ) → i < length ns → flat_map spaced (take (i + 1) ns) ≡ flat_map spaced (take i ns) ++ spaced (get_or ns i 0)
spaced_more ns i h = ap (flat_map spaced) (take_more ns i 0 h) ∙ sym (flat_map_more spaced [] (take i ns) (get_or ns i 0))
