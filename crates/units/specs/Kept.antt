-- The three units keep the laws of a unit. A quantity is told by a natural number, an amount or a time by an integer, and each law is then one of
-- those numbers: the two of a sum may change sides, and `<=` is the numbers' order. Assumes nothing.
use Rattle.std.specs.Prelude.{◌≡◌, ℕ, ◌+◌, leb, ℤ, ◌+ℤ◌, Some}
use Rattle.std.specs.Int.{Width}
use Rattle.std.specs.Int.Signed.{le_z}
use Rattle.std.specs.Ordering.{nat_cmp, int_cmp}
use Rattle.std.proofs.Common.{sym, ap, ◌∙◌, arith}
use Rattle.std.proofs.lemmas.Int.{ints}
use Rattle.std.proofs.lemmas.Bool.Decides.{nat_tests}
use Rattle.units.specs.Capped.{capped, capped_z}
use Rattle.units.specs.Laws.{UnitLaws}

-- a unit whose values hold the natural number n, and are made of it
module _ {U : Type 0} (n : U → ℕ) (of : ℕ → U) (again : (a : U) → of (n a) ≡ a) where
  pub natural_laws : UnitLaws (λ a b. of (capped (n a + n b))) (λ a b. leb (n a) (n b)) (λ a b. Some (nat_cmp (n a) (n b)))
  natural_laws = record {
    commutes = λ a b. ap of (omega arith);
    reflexive = λ a. grind (arith, nat_tests);
    antisymmetric = λ a b h k. sym (again a) ∙ ap of (grind (arith, nat_tests)) ∙ again b;
    transitive = λ a b c h k. grind (arith, nat_tests);
    total = λ a b. grind (arith, nat_tests);
    answered = λ a b. grind (arith, nat_tests);
  }

-- a unit whose values hold the integer z, of a width
module _ (w : Width) {U : Type 0} (z : U → ℤ) (of : ℤ → U) (again : (a : U) → of (z a) ≡ a) where
  pub integer_laws : UnitLaws (λ a b. of (capped_z w (z a +ℤ z b))) (λ a b. le_z (z a) (z b)) (λ a b. Some (int_cmp (z a) (z b)))
  integer_laws = record {
    commutes = λ a b. ap (λ s. of (capped_z w s)) (omega (arith, ints));
    reflexive = λ a. grind (arith, ints);
    antisymmetric = λ a b h k. sym (again a) ∙ ap of (grind (arith, ints)) ∙ again b;
    transitive = λ a b c h k. grind (arith, ints);
    total = λ a b. grind (arith, ints);
    answered = λ a b. grind (arith, ints);
  }
