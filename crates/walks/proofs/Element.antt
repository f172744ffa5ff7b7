-- A record read and written at a place of a lent list, for any declared type T of plain data: `xs[i]` of a `&[T]`, and `xs[i] = x` of a `&mut [T]`.
--     reads, writes        the two as steps of a walk, where a local holds the place: `_d = *_p`, and `*_p = _d`
--     takes                the first of a list whose elements are had, as those of a local array are
--     get_terms, get_mir, get_meets        the terms of `fn get(xs: &[T], i: usize) -> T { xs[i] }`, its MIR, and that the one meets the other
--     put_terms, put_mir, put_meets        the same of `fn put(xs: &mut [T], i: usize, x: T) { xs[i] = x; }`
-- The place of `xs[i]` is i times the size past the pointer. A `&[T]` is looked into, and the record is copied out whole; the elements of a `&mut [T]` are owned, and the record is stored whole.
-- Assumes nothing.
use mathlib.Core.Path.{◌≡◌, refl, sym, ap, subst}
use mathlib.Core.Option.{some}
use Prim.Native.Nat.{ℕ, suc, ◌*◌, ◌<◌, ◌≤◌, ◌^◌}
use native.Mathlib.Nat.{mul-le-mul_right}
use native.Mathlib.Omega.{arith}
use mathlib.Core.List.{List, [], ◌∷◌}
use lib.Dec.{T as Holds, ltb}
use lib.ListN.{length, get_or, set, length-set}
use seplogic.Ra.Ura.{Ura}
use base.Fraction.{full_share}
use mir.Syntax.{Ty, Fn, Body, local, value_local, named, imm, mut, unsigned, w64, ty_int, ty_ptr, ty_unit, ty_ref, place, field, deref, copy, int, opd_unit, rv_opd, op2, mul, offset, assign, seq, return}
use mir.Val.{vptr, has_ty, WT}
use base.Fml.{Lft, Share, fat, froom, flft}
use prog.Memory.{size}
use prog.Wp.{Env, Calls, Loops, WpFn, spot_of}
use types.Logic.{Logic}
use types.Kit.{Item, Seq, Step, step, Post, runs, nth, put, ‵, ◌⊛◌, ◌$◌, !, move, drop, use1, split, fsplit}
use types.Run.{look, look_raw, init, store_raw, stop, hop, from, load, lit, unit_lit, of_opd, bin, assigns}
use denote.RattleType.{RattleType}
use denote.Laws.{Is, shows}
use denote.Ref.{Bor, MutBor}
use denote.Slice.{slice_ty, shr_slice_vals, ShrSlice, Room}
use denote.Index.{row as records, place as place_of, place_is, elem_out, elem_back, elem_put, looks_slice, shuts_slice}
use denote.Steps.{owned as made}
use denote.Triple.Statement.{Triple}
use Rattle.walks.proofs.Walk.Values.{Of, Fits, Struct, struct, by_value, by_name, number, nothing, makes, shown_twice}
use Rattle.walks.proofs.Walk.Terms.{Terms, plain, shared, mutable, triple}
use Rattle.walks.proofs.Walk.Body.{Blocks, Walk, walks, ends}
use Rattle.walks.proofs.Walk.Locals.{at, pointer, sets, reads_as}

-- the place of a record that is there fits a usize
pub bytes_fit : (i n s : ℕ) → i < n → n * s < 2 ^ 63 → i * s < 2 ^ 64
bytes_fit i n s l r = let le : i * s ≤ n * s = mul-le-mul_right s (omega arith) in omega arith

-- what a walk has of a `&[T]`, beside its lifetime's token
abbrev pub reference : {M : Type 1} (𝓤 : Ura M) (S : Struct) → Lft → Bor (List (Of (struct S))) → Item 𝓤
reference 𝓤 S κ xs = ‵ ((ShrSlice (named 0) κ (struct S).row).own_val xs (shr_slice_vals xs))

-- ---- the steps. The local _p stands at place m of the rest of the context, and _d at place n
module _ {M : Type 1} {𝓤 : Ura M} {𝓛 : Logic 𝓤} {K : Type 0} {Γ : List (Item 𝓤)} {E : Env 𝓤 𝓛.H} {C : Calls 𝓤 𝓛.H} {Λ : Loops 𝓤 𝓛.H} {o : Post 𝓤 𝓛.H} {rest : Body} {p d : ℕ} where
  open 𝓛 use {H}

  pub takes : K → (S : Struct) (q : Share) (ys : List (Of (struct S))) (b c i : ℕ) (none : Of (struct S)) → i < length ys → (m n : ℕ)
      → nth 𝓛 m Γ ≡ ‵ (fat full_share (spot_of 𝓤 H E p).0 (spot_of 𝓤 H E p).1 (spot_of 𝓤 H E p).2 (vptr b (place_of (size (by_value S)) c i)))
      → nth 𝓛 n Γ ≡ ‵ (froom (spot_of 𝓤 H E d).0 (spot_of 𝓤 H E d).1 (spot_of 𝓤 H E d).2)
      → (spot_of 𝓤 H E d).0 ≡ by_value S
      → (Fits (struct S) (get_or ys i none) → Seq K 𝓛 (‵ (records (struct S).row q ys b c) ∷ put 𝓛 n (‵ (fat full_share (spot_of 𝓤 H E d).0 (spot_of 𝓤 H E d).1 (spot_of 𝓤 H E d).2 ((struct S).val (get_or ys i none)))) Γ) (runs C Λ E rest o))
      → Seq K 𝓛 (‵ (records (struct S).row q ys b c) ∷ Γ) (runs C Λ E (seq (assign (place d []) (rv_opd (copy (place p (deref (by_value S) ∷ []))))) rest) o)
  takes t S q ys b c i none l m n at_p at-d ty k =
      elem_out t R (Is R) (shows 𝓛 R) (λ x. (struct S).val x ∷ []) (struct S).tells q ys i none b c l (λ is.
      -- [ys[i]; what it owns; the others; …]
      assigns t (of_opd t (load t (from t (hop t (look t (suc (suc (suc m))) at_p) (stop t))) (look_raw t 0 refl))) (from t (stop t))
      (init t (suc (suc (suc n))) at-d (subst (λ (τ : Ty). Holds (has_ty τ ((struct S).val x)) × WT ((struct S).val x)) (sym ty) (((struct S).lawful 𝓛).typed x _ is).0)) $
      elem_back t R q ys i none ((struct S).val x ∷ []) b c l $ k is)
    where
      R : RattleType
      R = (struct S).row

      x : Of (struct S)
      x = get_or ys i none

  pub writes : K → (S : Struct) (ys : List (Of (struct S))) (b c i : ℕ) (x none : Of (struct S)) → Fits (struct S) x → i < length ys → (m n : ℕ)
      → nth 𝓛 m Γ ≡ ‵ (fat full_share (spot_of 𝓤 H E p).0 (spot_of 𝓤 H E p).1 (spot_of 𝓤 H E p).2 (vptr b (place_of (size (by_value S)) c i)))
      → nth 𝓛 n Γ ≡ ‵ (fat full_share (spot_of 𝓤 H E d).0 (spot_of 𝓤 H E d).1 (spot_of 𝓤 H E d).2 ((struct S).val x))
      → Step K 𝓛 (‵ (records (struct S).row full_share (set ys i x) b c) ∷ Γ) (runs C Λ E rest o) (‵ (records (struct S).row full_share ys b c) ∷ Γ) (runs C Λ E (seq (assign (place p (deref (by_value S) ∷ [])) (rv_opd (copy (place d [])))) rest) o)
  writes t S ys b c i x none is l m n at_p at-d = step (λ s.
      elem_out t R (Is R) (shows 𝓛 R) (λ x. (struct S).val x ∷ []) (struct S).tells full_share ys i none b c l (λ _.
      -- [xs[i]; what it owns; the others; …]
      assigns t (of_opd t (load t (from t (stop t)) (look t (suc (suc (suc n))) at-d))) (from t (hop t (look t (suc (suc (suc m))) at_p) (stop t))) (store_raw t 0 refl (((struct S).lawful 𝓛).typed x _ is).0) $
      move t (1 ∷ []) $ drop t $ made t R (Is R) (makes 𝓛 (struct S)) x _ is $ move t (1 ∷ 0 ∷ []) $ elem_put t R full_share ys i x ((struct S).val x ∷ []) b c l $ s))
    where
      R : RattleType
      R = (struct S).row

module _ {M : Type 1} {𝓤 : Ura M} {𝓛 : Logic 𝓤} {K : Type 0} {Γ : List (Item 𝓤)} {E : Env 𝓤 𝓛.H} {C : Calls 𝓤 𝓛.H} {Λ : Loops 𝓤 𝓛.H} {o : Post 𝓤 𝓛.H} {rest : Body} {p d : ℕ} where
  open 𝓛 use {H}

  pub reads : K → (S : Struct) (κ : Lft) (q : Share) (xs : Bor (List (Of (struct S)))) (i : ℕ) (none : Of (struct S)) → i < length xs.now → (m n : ℕ)
      → nth 𝓛 m Γ ≡ ‵ (fat full_share (spot_of 𝓤 H E p).0 (spot_of 𝓤 H E p).1 (spot_of 𝓤 H E p).2 (vptr xs.ref_ptr.0 (place_of (size (by_value S)) xs.ref_ptr.1 i)))
      → nth 𝓛 n Γ ≡ ‵ (froom (spot_of 𝓤 H E d).0 (spot_of 𝓤 H E d).1 (spot_of 𝓤 H E d).2)
      → (spot_of 𝓤 H E d).0 ≡ by_value S
      → (Fits (struct S) (get_or xs.now i none) → Seq K 𝓛 (‵ (flft κ q) ∷ reference 𝓤 S κ xs ∷ put 𝓛 n (‵ (fat full_share (spot_of 𝓤 H E d).0 (spot_of 𝓤 H E d).1 (spot_of 𝓤 H E d).2 ((struct S).val (get_or xs.now i none)))) Γ) (runs C Λ E rest o))
      → Seq K 𝓛 (‵ (flft κ q) ∷ reference 𝓤 S κ xs ∷ Γ) (runs C Λ E (seq (assign (place d []) (rv_opd (copy (place p (deref (by_value S) ∷ []))))) rest) o)
  reads t S κ q xs i none l m n at_p at-d ty k =
      -- a copy of the reference is looked into
      move t (1 ∷ []) $ use1 𝓛 (reference 𝓤 S κ xs ⊛ reference 𝓤 S κ xs) (shown_twice 𝓛 (struct S) κ xs) $ split t $ fsplit t $ drop t $ move t (0 ∷ 2 ∷ []) $
      looks_slice t tt R ((struct S).copied 𝓛) xs.now xs.ref_ptr.0 xs.ref_ptr.1 (λ q'.
      -- [the records; what shuts; the fractured borrow; the reference; …]
      takes t S q' xs.now xs.ref_ptr.0 xs.ref_ptr.1 i none l (suc (suc (suc m))) (suc (suc (suc n))) at_p at-d ty (λ is. shuts_slice t tt R q' xs.now xs.ref_ptr.0 xs.ref_ptr.1 $ move t (1 ∷ []) $ drop t $ k is))
    where
      R : RattleType
      R = (struct S).row

-- ---- the functions
module _ (S : Struct) (none : Of (struct S)) where
  abbrev D : Type 0
  D = Of (struct S)

  abbrev ty : Ty
  ty = by_value S

  abbrev pub get_terms : Terms
  get_terms = record {
    params = shared (struct S) ∷ plain (number w64) ∷ [];
    result = struct S;
    requires = some (λ a. a.1.0 < length a.0);
    ensures = λ a r ws. r ≡ get_or a.0 a.1.0 none;
  }

  abbrev pub get_mir : Fn
  get_mir = record {
    lifetimes = 1;
    outlives = [];
    ty_params = [];
    givens = 0;
    params = 2;
    locals = local ty value_local ∷ local (slice_ty (ty_ref (named 0) imm (by_name S))) value_local ∷ local (ty_int w64) value_local ∷ local (ty_int w64) value_local ∷ local ty_ptr value_local ∷ local ty value_local ∷ [];
    body = seq (assign (place 3 []) (op2 (mul unsigned) (copy (place 2 [])) (int w64 (size ty))))
        (seq (assign (place 4 []) (op2 offset (copy (place 1 (field 0 ∷ []))) (copy (place 3 []))))
        (seq (assign (place 5 []) (rv_opd (copy (place 4 (deref ty ∷ [])))))
        (seq (assign (place 0 []) (rv_opd (copy (place 5 [])))) return)));
  }

  abbrev pub put_terms : Terms
  put_terms = record {
    params = mutable (struct S) ∷ plain (number w64) ∷ plain (struct S) ∷ [];
    result = nothing;
    requires = some (λ a. a.1.0 < length a.0);
    ensures = λ a r ws. ws.0 ≡ set a.0 a.1.0 a.1.1.0;
  }

  abbrev pub put_mir : Fn
  put_mir = record {
    lifetimes = 1;
    outlives = [];
    ty_params = [];
    givens = 0;
    params = 3;
    locals = local ty_unit value_local ∷ local (slice_ty (ty_ref (named 0) mut (by_name S))) value_local ∷ local (ty_int w64) value_local ∷ local ty value_local ∷ local (ty_int w64) value_local ∷ local ty_ptr value_local ∷ [];
    body = seq (assign (place 4 []) (op2 (mul unsigned) (copy (place 2 [])) (int w64 (size ty))))
        (seq (assign (place 5 []) (op2 offset (copy (place 1 (field 0 ∷ []))) (copy (place 4 []))))
        (seq (assign (place 5 (deref ty ∷ [])) (rv_opd (copy (place 3 []))))
        (seq (assign (place 0 []) (rv_opd opd_unit)) return)));
  }

  module _ (small : Holds (ltb (size ty) (2 ^ 64))) {M : Type 1} {𝓤 : Ura M} (𝓛 : Logic 𝓤) (C : Calls 𝓤 𝓛.H) (Λ : Loops 𝓤 𝓛.H) where
    open 𝓛 use {H}

    module _ (κ : Lft) (q : Share) (xs : Bor (List D)) (i : ℕ) (room : Room (struct S).row (length xs.now)) (l : i < length xs.now) where
      get_bytes : i * size ty < 2 ^ 64
      get_bytes = bytes_fit i (length xs.now) (size ty) l room.1

      get_walk : (bs : Blocks get_mir.locals) → Walk 𝓛 get_terms get_mir C Λ (κ, tt) (q, tt) (xs, (i, tt)) bs
      get_walk bs =
          -- [the token; the reference; _0; …; _5]
          sets ! 5 refl (bin ! (at ! 4 refl) (lit ! small) (record { fits = get_bytes })) (tt, record { fits = get_bytes }) $ sets ! 6 refl (bin ! (pointer ! 3 refl refl) (at ! 5 refl) tt) (tt, tt) $
          reads_as ! 6 refl (ap (vptr xs.ref_ptr.0) (sym (place_is (size ty) xs.ref_ptr.1 i))) $ reads ! S κ q xs i none l 4 5 refl refl refl (λ is.
          sets ! 2 refl (of_opd ! (at ! 7 refl)) (((struct S).lawful 𝓛).typed (get_or xs.now i none) _ is).0 $
          ends get_terms (κ, tt) (q, tt) (xs, (i, tt)) (some _ ∷ some _ ∷ some _ ∷ some _ ∷ some _ ∷ []) (get_or xs.now i none) (tt, (tt, tt)) ! is (tt, (tt, tt)) refl)

    module _ (κ : Lft) (q : Share) (xs : MutBor (List D)) (i : ℕ) (room : Room (struct S).row (length xs.now)) (l : i < length xs.now) where
      put_bytes : i * size ty < 2 ^ 64
      put_bytes = bytes_fit i (length xs.now) (size ty) l room.1

      module _ (x : D) (is : Fits (struct S) x) where
        put_walk : (bs : Blocks put_mir.locals) → Walk 𝓛 put_terms put_mir C Λ (κ, tt) (q, tt) (xs, (i, (x, tt))) bs
        put_walk bs =
            -- [the elements; the open borrow; _0; …; _5]
            sets ! 6 refl (bin ! (at ! 4 refl) (lit ! small) (record { fits = put_bytes })) (tt, record { fits = put_bytes }) $ sets ! 7 refl (bin ! (pointer ! 3 refl refl) (at ! 6 refl) tt) (tt, tt) $
            reads_as ! 7 refl (ap (vptr xs.ref_ptr.0) (sym (place_is (size ty) xs.ref_ptr.1 i))) $ writes ! S xs.now xs.ref_ptr.0 xs.ref_ptr.1 i x none is l 6 4 refl refl $
            sets ! 2 refl (of_opd ! (unit_lit !)) (tt, tt) $
            ends put_terms (κ, tt) (q, tt) (xs, (i, (x, tt))) (some _ ∷ some _ ∷ some _ ∷ some _ ∷ some _ ∷ []) tt (set xs.now i x, (tt, (tt, tt))) ! refl (length-set xs.now i x, (tt, (tt, tt))) refl

    pub get_meets : Triple 𝓤 (WpFn 𝓤 H C Λ get_mir) (triple 𝓛 get_terms)
    get_meets = walks 𝓛 get_terms get_mir C Λ (λ κs. (refl, (refl, tt))) (λ κs qs a are l. get_walk κs.0 qs.0 a.0 a.1.0 are.0.0.1 l)

    pub put_meets : Triple 𝓤 (WpFn 𝓤 H C Λ put_mir) (triple 𝓛 put_terms)
    put_meets = walks 𝓛 put_terms put_mir C Λ (λ κs. (refl, (refl, (refl, tt)))) (λ κs qs a are l. put_walk κs.0 qs.0 a.0 a.1.0 are.0.0.1 l a.1.1.0 are.1.1.0)
