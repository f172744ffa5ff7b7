-- A setter over a function by value, for any declared types: `fn set(s: &mut S, f: F) { *s = with(*s, f); }`.
--     with_terms       the terms of `with`: its result is `to f s`
--     set_terms, set_mir, set_meets        the setter's terms and MIR, and that it meets them where `with` does
-- The value is copied out whole, `with` is called on the copy, and its result is stored whole.
-- Assumes nothing.
use mathlib.Core.Path.{◌≡◌, refl}
use mathlib.Core.Option.{some, none}
use mathlib.Core.List.{[], ◌∷◌}
use lib.Dec.{T as Holds}
use seplogic.Ra.Ura.{Ura}
use mir.Syntax.{Callee, Fn, local, value_local, named, mut, ty_unit, ty_ref, place, deref, copy, opd_unit, rv_opd, assign, call, seq, return}
use mir.Val.{has_ty, WT}
use base.Fml.{Lft, Share}
use prog.Wp.{Calls, Loops, WpFn}
use types.Logic.{Logic}
use types.Kit.{◌$◌, ! }
use types.Run.{look, look_raw, store_raw, stop, hop, from, load, unit_lit, of_opd, assigns}
use sound.WpLaws.{FmC}
use denote.Ref.{MutBor}
use denote.Triple.Statement.{Triple}
use Rattle.walks.proofs.Walk.Values.{Of, Fits, Struct, struct, by_value, by_name, nothing}
use Rattle.walks.proofs.Walk.Terms.{Terms, plain, single, triple}
use Rattle.walks.proofs.Walk.Calls.{calls}
use Rattle.walks.proofs.Walk.Body.{Blocks, Walk, walks, ends}
use Rattle.walks.proofs.Walk.Locals.{at, reading, sets, gets}
use Rattle.walks.proofs.Walk.Memory.{value_out, value_in}

module _ (S F : Struct) (to : Of (struct F) → Of (struct S) → Of (struct S)) where
  abbrev pub with_terms : Terms
  with_terms = record {
    params = plain (struct S) ∷ plain (struct F) ∷ [];
    result = struct S;
    requires = none;
    ensures = λ a r ws. r ≡ to a.1.0 a.0;
  }

  abbrev pub set_terms : Terms
  set_terms = record {
    params = single (struct S) ∷ plain (struct F) ∷ [];
    result = nothing;
    requires = none;
    ensures = λ a r ws. ws.0 ≡ to a.1.0 a.0;
  }

  module _ (with : Callee) where
    abbrev pub set_mir : Fn
    set_mir = record {
      lifetimes = 1;
      outlives = [];
      ty_params = [];
      givens = 0;
      params = 2;
      locals = local ty_unit value_local ∷ local (ty_ref (named 0) mut (by_name S)) value_local ∷ local (by_value F) value_local ∷ local (by_value S) value_local ∷ local (by_value S) value_local ∷ [];
      body = seq (assign (place 4 []) (rv_opd (copy (place 1 (deref (by_value S) ∷ [])))))
          (seq (call with (copy (place 4 []) ∷ copy (place 2 []) ∷ []) (place 3 []))
          (seq (assign (place 1 (deref (by_value S) ∷ [])) (rv_opd (copy (place 3 []))))
          (seq (assign (place 0 []) (rv_opd opd_unit)) return)));
    }

    module _ {M : Type 1} {𝓤 : Ura M} (𝓛 : Logic 𝓤) (C : Calls 𝓤 𝓛.H) (Λ : Loops 𝓤 𝓛.H) (fm : FmC 𝓤 𝓛.H 𝓛.laws C) (known : Triple 𝓤 (C with) (triple 𝓛 with_terms)) where
      open 𝓛 use {H}

      typed : (x : Of (struct S)) → Fits (struct S) x → Holds (has_ty (by_value S) ((struct S).val x)) × WT ((struct S).val x)
      typed x is = (((struct S).lawful 𝓛).typed x _ is).0

      module _ (κ : Lft) (q : Share) (s : MutBor (Of (struct S))) (f : Of (struct F)) (is_f : Fits (struct F) f) where
        walk : (bs : Blocks set_mir.locals) → Walk 𝓛 set_terms set_mir C Λ (κ, tt) (q, tt) (s, (f, tt)) bs
        walk bs =
            value_out ! (struct S) s.now s.ref_ptr.0 s.ref_ptr.1 (λ is-s.
            -- [the cell of *s; the open borrow; _0; …; _4]
            sets ! 6 refl (of_opd ! (load ! (from ! (hop ! (look ! 3 refl) (stop !))) (look_raw ! 0 refl))) (typed s.now is-s) $
            calls with_terms ! fm known ((s.now, is-s), ((f, is_f), tt)) tt (reading ! 2 (4 ∷ 2 ∷ []) (refl, (refl, tt))) (λ r ws e is-r len. gets ! 5 refl (typed r is-r) $
            assigns ! (of_opd ! (at ! 5 refl)) (from ! (hop ! (look ! 3 refl) (stop !))) (store_raw ! 0 refl (typed r is-r)) $ value_in ! (struct S) r s.ref_ptr.0 s.ref_ptr.1 is-r $
            sets ! 2 refl (of_opd ! (unit_lit !)) (tt, tt) $
            ends set_terms (κ, tt) (q, tt) (s, (f, tt)) (some _ ∷ some _ ∷ some _ ∷ some _ ∷ []) tt (r, (tt, tt)) ! refl (tt, (tt, tt)) e))

      pub set_meets : Triple 𝓤 (WpFn 𝓤 H C Λ set_mir) (triple 𝓛 set_terms)
      set_meets = walks 𝓛 set_terms set_mir C Λ (λ κs. (refl, (refl, tt))) (λ κs qs a are _. walk κs.0 qs.0 a.0 a.1.0 are.1.0)
