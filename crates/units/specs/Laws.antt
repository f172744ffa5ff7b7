-- What every unit keeps: the two of a sum may change sides, and the order is total and is the one that `<=` answers by. Assumes nothing.
use Rattle.std.specs.Prelude.{◌≡◌, Bool, true, ◌⊎◌, Option}
use Rattle.std.specs.declared.cmp.Ordering.{Ordering}
use Rattle.std.specs.Ordering.{partial_le}

pub record UnitLaws {U : Type 0} (sum : U → U → U) (at_most : U → U → Bool) (compared : U → U → Option Ordering) : Type 0 where
  pub commutes : (a b : U) → sum a b ≡ sum b a
  pub reflexive : (a : U) → at_most a a ≡ true
  pub antisymmetric : (a b : U) → at_most a b ≡ true → at_most b a ≡ true → a ≡ b
  pub transitive : (a b c : U) → at_most a b ≡ true → at_most b c ≡ true → at_most a c ≡ true
  pub total : (a b : U) → (at_most a b ≡ true) ⊎ (at_most b a ≡ true)
  pub answered : (a b : U) → partial_le compared a b ≡ at_most a b
