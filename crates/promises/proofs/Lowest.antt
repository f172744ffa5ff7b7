-- The number of the first test that holds, counted from n, is the lowest that applies: by induction over the tests. Assumes nothing.
use mathlib.Core.Path.{◌≡◌, refl, subst}
use mathlib.Core.Logic.{◌≢◌}
use mathlib.Core.Bool.{Bool, true, false, cond}
use mathlib.Core.List.{List, [], ◌∷◌}
use Prim.Native.Nat.{ℕ, zero, suc, ◌+◌, ◌-◌, ◌<◌}
use native.Mathlib.Omega.{arith}
use lib.ListN.{get_or}
use Rattle.promises.specs.Demands.{Lowest}

abbrev pub first_from : ℕ → List Bool → ℕ
first_from n [] = 0
first_from n (t ∷ ts) = cond t n (first_from (suc n) ts)

pub lowest : (n : ℕ) → 0 < n → (ts : List Bool) → Lowest n ts (first_from n ts)
lowest n h [] = record {
  none = λ e k. refl;
  numbered = λ e. absurd (e refl);
  applies = λ e. absurd (e refl);
  before = λ e. absurd (e refl);
}
lowest n h (true ∷ ts) = record {
  none = λ e. absurd (omega (arith, e));
  numbered = λ e. omega arith;
  applies = λ e. let z : 0 ≡ n - n = omega arith in subst (λ k. get_or (true ∷ ts) k false ≡ true) z refl;
  before = λ e k l. absurd (omega arith);
}
lowest n h (false ∷ ts) = let r = lowest (suc n) (omega arith) ts in record {
  none = λ e. at_or_after (r.none e);
  numbered = λ e. omega (arith, r.numbered e);
  applies = λ e. let z : suc (first_from (suc n) ts - suc n) ≡ first_from (suc n) ts - n = omega (arith, r.numbered e) in subst (λ k. get_or (false ∷ ts) k false ≡ true) z (r.applies e);
  before = λ e. within e r;
}
  where
    at_or_after : ((k : ℕ) → get_or ts k false ≡ false) → (k : ℕ) → get_or (false ∷ ts) k false ≡ false
    at_or_after f zero = refl
    at_or_after f (suc k) = f k

    within : first_from (suc n) ts ≢ 0 → Lowest (suc n) ts (first_from (suc n) ts) → (k : ℕ) → n + k < first_from (suc n) ts → get_or (false ∷ ts) k false ≡ false
    within e r zero l = refl
    within e r (suc k) l = r.before e k (omega arith)
