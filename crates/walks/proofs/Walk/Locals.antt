-- A local by its place n in the context of a walk: what `types.Run`'s steps are for a whole local. At a walk's context each `refl` computes.
--     at ! n refl          an operand: what the local at n holds.        part ! n k refl refl refl     field k of it
--     pointer, count ! n refl refl     of a local slice reference, its pointer and its count.        start ! n refl refl      where it points, as `&*s` has it
--     reading ! b (i ∷ …) (refl, …)        the operands of a call, whole locals, where local i stands at b + i
--     sets ! n refl r t    `_i = r`, into room; t says that the value is of the local's type.      resets     over what the local holds
--     gets ! n refl t      a call's result is stored, into room.      regets     over what the local holds
--     reads_as ! n refl e  what a cell holds, written another way
-- Assumes `Logic`.
use mathlib.Core.Path.{◌≡◌, refl, sym, ap, subst}
use mathlib.Core.Option.{some}
use Prim.Native.Nat.{ℕ, zero, ◌+◌}
use mathlib.Core.Logic.{Lift}
use mathlib.Core.List.{List, [], ◌∷◌, map}
use seplogic.Ra.Ura.{Ura}
use base.Fraction.{full_share}
use lib.Dec.{T as Holds}
use mir.Syntax.{Ty, Tys, Sym, w64, ty_struct, Rv as RValue, Body, place, field, deref, copy, addr_of, assign, seq}
use mir.Val.{Val, Vals, vint, vptr, vstruct, WT, has_ty}
use mir.Fields.{get_v, set_v}
use base.Fml.{Share, fat, froom}
use prog.Memory.{field_of, field_at}
use prog.Wp.{Env, Calls, Loops, spot_of}
use types.Logic.{Logic}
use types.Kit.{Item, Step, Goal, Post, runs, lands, nth, put, ‵, rewrite}
use types.Part.{Part, whole, sub, look_in}
use types.Run.{Reads, Opd, Opds, Rv, look, init, store, stop, hop, fld, from, load, addr, and_then, no_more, assigns, land}
use denote.Slice.{slice_ty, slice_val}

-- a field of the struct that stands at n is read
field_in : {M : Type 1} {𝓤 : Ura M} {𝓛 : Logic 𝓤} {K : Type 0} {Γ : List (Item 𝓤)} → K → (n k : ℕ) {q : Share} {ν : Sym} {τs : Tys} {b o : ℕ} {vs : Vals} {τ : Ty} {d : ℕ}
    → nth 𝓛 n Γ ≡ ‵ (fat q (ty_struct ν τs) b o (vstruct vs)) → field_at zero τs k ≡ some (τ, d) → Reads K 𝓛 Γ τ b (o + d) (get_v vs k)
field_in {𝓤 = 𝓤} {𝓛 = 𝓛} {K = K} t n k {q} {ν} {τs} {b} {o} {vs} {τ} {d} e g =
    look_in t n (subst (λ (j : Item 𝓤). Part K 𝓛 j q τ b (o + d) (get_v vs k) (λ u. ‵ (fat q (ty_struct ν τs) b o (vstruct (set_v vs k u))))) (sym e) (sub t k g (whole t)))

module _ {M : Type 1} {𝓤 : Ura M} {𝓛 : Logic 𝓤} {K : Type 0} {Γ : List (Item 𝓤)} {E : Env 𝓤 𝓛.H} {i : ℕ} where
  open 𝓛 use {H}

  pub at : K → (n : ℕ) {q : Share} {v : Val} → nth 𝓛 n Γ ≡ ‵ (fat q (spot_of 𝓤 H E i).0 (spot_of 𝓤 H E i).1 (spot_of 𝓤 H E i).2 v) → Opd K 𝓛 Γ E (copy (place i [])) v
  at t n e = load t (from t (stop t)) (look t n e)

  pub part : K → (n k : ℕ) {q : Share} {ν : Sym} {τs : Tys} {vs : Vals} {τ : Ty} {d : ℕ} → nth 𝓛 n Γ ≡ ‵ (fat q (ty_struct ν τs) (spot_of 𝓤 H E i).1 (spot_of 𝓤 H E i).2 (vstruct vs))
      → field_of (spot_of 𝓤 H E i).0 k ≡ some (τ, d) → field_at zero τs k ≡ some (τ, d) → Opd K 𝓛 Γ E (copy (place i (field k ∷ []))) (get_v vs k)
  part t n k e f g = load t (from t (fld t f (stop t))) (field_in t n k e g)

  -- a local that holds a slice reference
  module _ {q : Share} {ρ : Ty} {p : ℕ × ℕ} {c : ℕ} where
    pub pointer : K → (n : ℕ) → nth 𝓛 n Γ ≡ ‵ (fat q (slice_ty ρ) (spot_of 𝓤 H E i).1 (spot_of 𝓤 H E i).2 (slice_val p c)) → (spot_of 𝓤 H E i).0 ≡ slice_ty ρ → Opd K 𝓛 Γ E (copy (place i (field 0 ∷ []))) (vptr p.0 p.1)
    pointer t n e f = part t n 0 e (ap (λ (τ : Ty). field_of τ 0) f) refl

    pub count : K → (n : ℕ) → nth 𝓛 n Γ ≡ ‵ (fat q (slice_ty ρ) (spot_of 𝓤 H E i).1 (spot_of 𝓤 H E i).2 (slice_val p c)) → (spot_of 𝓤 H E i).0 ≡ slice_ty ρ → Opd K 𝓛 Γ E (copy (place i (field 1 ∷ []))) (vint w64 c)
    count t n e f = part t n 1 e (ap (λ (τ : Ty). field_of τ 1) f) refl

    pub start : K → (n : ℕ) {τ : Ty} → nth 𝓛 n Γ ≡ ‵ (fat q (slice_ty ρ) (spot_of 𝓤 H E i).1 (spot_of 𝓤 H E i).2 (slice_val p c)) → (spot_of 𝓤 H E i).0 ≡ slice_ty ρ → Rv K 𝓛 Γ E (addr_of (place i (field 0 ∷ deref τ ∷ []))) (vptr p.0 p.1)
    start t n e f = addr t (from t (fld t (ap (λ (τ : Ty). field_of τ 0) f) (hop t (field_in t n 0 e refl) (stop t))))

  module _ {C : Calls 𝓤 H} {Λ : Loops 𝓤 H} {q : Post 𝓤 H} {rest : Body} {v : Val} where
    pub sets : K → (n : ℕ) {r : RValue} → nth 𝓛 n Γ ≡ ‵ (froom (spot_of 𝓤 H E i).0 (spot_of 𝓤 H E i).1 (spot_of 𝓤 H E i).2) → Rv K 𝓛 Γ E r v → Holds (has_ty (spot_of 𝓤 H E i).0 v) × WT v
        → Step K 𝓛 (put 𝓛 n (‵ (fat full_share (spot_of 𝓤 H E i).0 (spot_of 𝓤 H E i).1 (spot_of 𝓤 H E i).2 v)) Γ) (runs C Λ E rest q) Γ (runs C Λ E (seq (assign (place i []) r) rest) q)
    sets t n e r ty = assigns t r (from t (stop t)) (init t n e ty)

    pub resets : K → (n : ℕ) {r : RValue} {v₀ : Val} → nth 𝓛 n Γ ≡ ‵ (fat full_share (spot_of 𝓤 H E i).0 (spot_of 𝓤 H E i).1 (spot_of 𝓤 H E i).2 v₀) → Rv K 𝓛 Γ E r v → Holds (has_ty (spot_of 𝓤 H E i).0 v) × WT v
        → Step K 𝓛 (put 𝓛 n (‵ (fat full_share (spot_of 𝓤 H E i).0 (spot_of 𝓤 H E i).1 (spot_of 𝓤 H E i).2 v)) Γ) (runs C Λ E rest q) Γ (runs C Λ E (seq (assign (place i []) r) rest) q)
    resets t n e r ty = assigns t r (from t (stop t)) (store t n e ty)

    pub gets : K → (n : ℕ) → nth 𝓛 n Γ ≡ ‵ (froom (spot_of 𝓤 H E i).0 (spot_of 𝓤 H E i).1 (spot_of 𝓤 H E i).2) → Holds (has_ty (spot_of 𝓤 H E i).0 v) × WT v
        → Step K 𝓛 (put 𝓛 n (‵ (fat full_share (spot_of 𝓤 H E i).0 (spot_of 𝓤 H E i).1 (spot_of 𝓤 H E i).2 v)) Γ) (runs C Λ E rest q) Γ (lands C Λ E (place i []) v rest q)
    gets t n e ty = land t (from t (stop t)) (init t n e ty)

    pub regets : K → (n : ℕ) {v₀ : Val} → nth 𝓛 n Γ ≡ ‵ (fat full_share (spot_of 𝓤 H E i).0 (spot_of 𝓤 H E i).1 (spot_of 𝓤 H E i).2 v₀) → Holds (has_ty (spot_of 𝓤 H E i).0 v) × WT v
        → Step K 𝓛 (put 𝓛 n (‵ (fat full_share (spot_of 𝓤 H E i).0 (spot_of 𝓤 H E i).1 (spot_of 𝓤 H E i).2 v)) Γ) (runs C Λ E rest q) Γ (lands C Λ E (place i []) v rest q)
    regets t n e ty = land t (from t (stop t)) (store t n e ty)

module _ {M : Type 1} {𝓤 : Ura M} {𝓛 : Logic 𝓤} {K : Type 0} {Γ : List (Item 𝓤)} {G : Goal 𝓤 𝓛.H} where
  pub reads_as : K → (n : ℕ) {q : Share} {τ : Ty} {b o : ℕ} {v v' : Val} → nth 𝓛 n Γ ≡ ‵ (fat q τ b o v) → v ≡ v' → Step K 𝓛 (put 𝓛 n (‵ (fat q τ b o v')) Γ) G Γ G
  reads_as t n {q} {τ} {b} {o} e h = rewrite t n (λ (u : Val). ‵ (fat q τ b o u)) h e

-- ---- the operands of a call, each a whole local
module _ {M : Type 1} {𝓤 : Ura M} (𝓛 : Logic 𝓤) (Γ : List (Item 𝓤)) (E : Env 𝓤 𝓛.H) (b : ℕ) where
  open 𝓛 use {H}

  abbrev pub Stand : List ℕ → List Val → Type 2
  Stand [] [] = Unit {2}
  Stand [] (v ∷ vs) = Lift {0, 2} ⊥
  Stand (i ∷ is) [] = Lift {0, 2} ⊥
  Stand (i ∷ is) (v ∷ vs) = (nth 𝓛 (b + i) Γ ≡ ‵ (fat full_share (spot_of 𝓤 H E i).0 (spot_of 𝓤 H E i).1 (spot_of 𝓤 H E i).2 v)) × Stand is vs

module _ {M : Type 1} {𝓤 : Ura M} {𝓛 : Logic 𝓤} {K : Type 0} {Γ : List (Item 𝓤)} {E : Env 𝓤 𝓛.H} where
  all_read : K → (b : ℕ) (is : List ℕ) (vs : List Val) → Stand 𝓛 Γ E b is vs → Opds K 𝓛 Γ E (map (λ i. copy (place i [])) is) vs
  all_read t b [] [] s = no_more t
  all_read t b [] (v ∷ vs) s = absurd s.lower
  all_read t b (i ∷ is) [] s = absurd s.lower
  all_read t b (i ∷ is) (v ∷ vs) s = and_then t (at t (b + i) s.0) (all_read t b is vs s.1)

  pub reading : K → (b : ℕ) (is : List ℕ) {vs : List Val} → Stand 𝓛 Γ E b is vs → Opds K 𝓛 Γ E (map (λ i. copy (place i [])) is) vs
  reading t b is {vs} s = all_read t b is vs s
