-- The numbers of the kinds, by their place in the list of kinds: a number that stands for a kind is the kind's. Assumes nothing.
use mathlib.Core.Path.{◌≡◌, refl, sym, ap, ◌∙◌}
use mathlib.Core.List.{List, [], ◌∷◌}
use Prim.Native.Nat.{ℕ, zero, suc, ◌+◌}
use native.Mathlib.Nat.{add-zero}
use native.Mathlib.Numerals.{one-add}
use native.Mathlib.Omega.{arith}
use Rattle.std.specs.Prelude.{Some, slice_get}
use Rattle.std.proofs.lemmas.Option.{none-some, same_Some}
use Rattle.record.specs.Kinds.{kinds, kind_of, kind_number}
use Rattle.record.specs.declared.kind.Kind.{Kind}

-- the kinds of a list have the numbers from n on
abbrev Run : List Kind → ℕ → Type 0
Run [] n = Unit {0}
Run (k ∷ ks) n = (kind_number k ≡ n) × Run ks (n + 1)

-- the fourteen have 1 to 14
run : Run kinds 1
run = (refl, (refl, (refl, (refl, (refl, (refl, (refl, (refl, (refl, (refl, (refl, (refl, (refl, (refl, tt))))))))))))))

-- place m of a run from n on has the number n + m
in_run : (ks : List Kind) (n m : ℕ) {k : Kind} → Run ks n → slice_get ks m ≡ Some k → kind_number k ≡ n + m
in_run [] n m r e = absurd (none-some _ e)
in_run (j ∷ ks) n zero r e = ap kind_number (same_Some _ _ (sym e)) ∙ r.0 ∙ sym (add-zero n)
in_run (j ∷ ks) n (suc m) r e =
    let next : n + 1 + m ≡ n + suc m = omega arith in
    in_run ks (n + 1) m r.1 e ∙ next

-- the number that stands for a kind is the kind's
pub number_of_kind : (n : ℕ) {k : Kind} → kind_of n ≡ Some k → kind_number k ≡ n
number_of_kind zero e = absurd (none-some _ e)
number_of_kind (suc n) e = in_run kinds 1 n run e ∙ one-add n
