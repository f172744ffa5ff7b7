-- A `match` in a walk, on an enum that a local holds, where the variant is known: the tag is then a numeral, and only the arm of that variant is walked.
--     arms_of b         the arms of the match that a body b begins with.        arm_at k as      the one of variant k
--     tag ! X n y refl refl refl       the operand of the match: the tag of the local at n, of the enum X, which holds y
--     bound ! X τ n k refl refl refl   an operand: what the live variant k of that local holds, of type τ
-- A walk goes by cases on the value: `first ! $ switches_on ! (tag ! …) $ exec ! C Λ E (arm_at k (arms_of b)) (arm C Λ E rest Q) $ …`. The enum is given, so that
-- its type is never looked for.
-- Assumes `Logic`.
use mathlib.Core.Path.{◌≡◌, refl, sym, ap, subst, ◌∙◌}
use mathlib.Core.Bool.{cond as if-so}
use mathlib.Core.Option.{some}
use Prim.Native.Nat.{ℕ}
use mathlib.Core.List.{List, [], ◌∷◌}
use seplogic.Ra.Ura.{Ura}
use mir.Syntax.{Ty, Tys, tcons, tnil, w8, Body, Arms, arm, default, no_default, skip, seq, assign, block, loop, cond, switch, exit, return, call, unreachable, call_v, lend_static, place, variant, field, copy}
use mir.Val.{Val, Vals, vint, has_key}
use mir.Fields.{get_v}
use base.Fml.{Share, fat}
use prog.Memory.{variant_of, variant_at, with_tag}
use prog.Wp.{Env, spot_of}
use types.Logic.{Logic}
use types.Kit.{Item, nth, ‵}
use types.Part.{Part, whole, look_in}
use types.Run.{Opd, stop, fld, from, load}
use types.Match.{live, vrt, look_tag, in_variant}
use denote.Enum.Enum.{layouts}
use denote.Enum.Declared.{variants, tag_of}
use Rattle.walks.proofs.Walk.Values.{Of, Enum, choice, choice_type}

abbrev arms_in : Body → Arms
arms_in skip = no_default
arms_in (seq a b) = no_default
arms_in (assign p r) = no_default
arms_in (block b) = no_default
arms_in (loop b) = no_default
arms_in (cond o a b) = no_default
arms_in (switch o arms) = arms
arms_in (exit k) = no_default
arms_in return = no_default
arms_in (call f xs p) = no_default
arms_in unreachable = no_default
arms_in (call_v c ς xs p) = no_default
arms_in (lend_static p τ c) = no_default

abbrev pub arms_of : Body → Arms
arms_of skip = no_default
arms_of (seq a b) = arms_in a
arms_of (assign p r) = no_default
arms_of (block b) = no_default
arms_of (loop b) = no_default
arms_of (cond o a b) = no_default
arms_of (switch o arms) = no_default
arms_of (exit k) = no_default
arms_of return = no_default
arms_of (call f xs p) = no_default
arms_of unreachable = no_default
arms_of (call_v c ς xs p) = no_default
arms_of (lend_static p τ c) = no_default

abbrev pub arm_at : ℕ → Arms → Body
arm_at k (arm ks b arms) = if-so (has_key ks k) b (arm_at k arms)
arm_at k (default b) = b
arm_at k no_default = skip

-- an item that is a cell has itself within it
cell_at : {M : Type 1} {𝓤 : Ura M} {𝓛 : Logic 𝓤} {K : Type 0} {j : Item 𝓤} {q : Share} {τ : Ty} {b o : ℕ} {v : Val} → K → j ≡ ‵ (fat q τ b o v) → Part K 𝓛 j q τ b o v (λ w. ‵ (fat q τ b o w))
cell_at {𝓤 = 𝓤} {𝓛 = 𝓛} {K = K} {q = q} {τ} {b} {o} {v} t e = subst (λ (x : Item 𝓤). Part K 𝓛 x q τ b o v (λ w. ‵ (fat q τ b o w))) (sym e) (whole t)

module _ {M : Type 1} {𝓤 : Ura M} {𝓛 : Logic 𝓤} {K : Type 0} {Γ : List (Item 𝓤)} {E : Env 𝓤 𝓛.H} {i : ℕ} {q : Share} where
  open 𝓛 use {H}

  pub tag : K → (X : Enum) (n : ℕ) (y : Of (choice X)) {τs : Tys} → nth 𝓛 n Γ ≡ ‵ (fat q (choice_type X) (spot_of 𝓤 H E i).1 (spot_of 𝓤 H E i).2 ((choice X).val y))
      → (spot_of 𝓤 H E i).0 ≡ choice_type X → variant_at (layouts (variants X.type)) 0 ≡ some τs → Opd K 𝓛 Γ E (copy (place i (variant 0 ∷ field 0 ∷ []))) (vint w8 (tag_of X.type y))
  tag t X n y e f g = load t (from t (vrt t (ap (λ (ρ : Ty). variant_of ρ 0) f ∙ ap (with_tag X.type.name) g) (fld t refl (stop t)))) (look_tag t n (cell_at t e))

  pub bound : K → (X : Enum) (τ : Ty) (n k : ℕ) {vs : Vals} → nth 𝓛 n Γ ≡ ‵ (fat q (choice_type X) (spot_of 𝓤 H E i).1 (spot_of 𝓤 H E i).2 (live k vs))
      → (spot_of 𝓤 H E i).0 ≡ choice_type X → variant_at (layouts (variants X.type)) k ≡ some (tcons τ tnil) → Opd K 𝓛 Γ E (copy (place i (variant k ∷ field 1 ∷ []))) (get_v vs 0)
  bound t X τ n k e f g = load t (from t (vrt t (ap (λ (ρ : Ty). variant_of ρ k) f ∙ ap (with_tag X.type.name) g) (fld t refl (stop t)))) (look_in t n (in_variant t k 0 g refl (cell_at t e)))
