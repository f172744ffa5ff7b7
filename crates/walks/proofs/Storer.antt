-- An array of N records written back whole to a lent list of N, for any declared type of plain data:
--     fn store(xs: &mut [T], t: [T; N]) { let mut i = 0; while i < N { xs[i] = t[i]; i += 1; } }
-- The elements are owned throughout. A turn takes record i out of the array's elements and stores it whole at place i; what the turns carry is the list: the first i records of t, and then those of before.
--     stored           that list, with its length, how a turn changes it, and what it is at the end
--     store_terms, store_mir, store_meets      the terms of `store`, its MIR, and that the one meets the other
-- Assumes nothing.
use mathlib.Core.Path.{◌≡◌, refl, sym, ap, ◌∙◌}
use mathlib.Core.Option.{Option, some, none as not-any}
use mathlib.Core.Bool.{true, false}
use mathlib.Core.Logic.{inl, inr}
use mathlib.Core.WellFounded.InvImage
use mathlib.Core.WellFounded.{WellFounded}
use Prim.Native.Nat.{ℕ, suc, ◌+◌, ◌-◌, ◌*◌, ◌<◌, ◌≤◌, ◌^◌}
use native.Mathlib.Numerals.{add-one}
use native.Mathlib.Omega.{arith}
use mathlib.Core.List.{List, [], ◌∷◌, ◌++◌, append-nil}
use lib.Dec.{T as Holds, ltb, lit<}
use lib.ListN.{length, get_or, set, take, drop, length-append, length-drop, drop_of_length-le}
use lib.Seq.{take-suc, take_all, drop-cons, length-take-le, set_at, append_snoc}
use lib.WfN.{lt-wf_rel}
use borrow.Author.Tests.{ltb-true, ltb-false}
use seplogic.Ra.Ura.{Ura}
use base.Fraction.{full_share}
use mir.Syntax.{Ty, Body, Fn, local, value_local, memory_slot, named, mut, unsigned, w64, ty_int, ty_bool, ty_ptr, ty_unit, ty_ref, ty_array, place, field, deref, copy, int, opd_unit, rv_opd, op2, addr_of, add, mul, lt, offset, assign, seq, cond, block, loop, skip, exit, return}
use mir.Val.{Val, vint, vbool, vptr}
use base.Fml.{Lft, Share}
use prog.Memory.{size}
use prog.Wp.{Env, WpFn, Tables, after_turn}
use types.Logic.{Logic}
use types.Kit.{Go, Item, Sq, Post, runs, at_ret, ‵, ◌$◌, !, move, rewrite}
use types.Run.{Below, store, forget, stop, from, lit, addr, unit_lit, of_opd, bin, assigns_last, stays, again}
use denote.Ref.{MutBor}
use denote.Slice.{slice_ty, slice_val, Room}
use denote.Index.{row as records, place_is}
use denote.Triple.Statement.{Triple}
use Rattle.walks.proofs.Element.{bytes_fit, takes, writes}
use Rattle.walks.proofs.Walk.Values.{Value, Of, Fits, Struct, struct, by_value, by_name, nothing, array}
use Rattle.walks.proofs.Walk.Terms.{Terms, plain, mutable, triple}
use Rattle.walks.proofs.Walk.Function.{Exit, slice_open}
use Rattle.walks.proofs.Walk.Body.{Blocks, env, cells, dies, Walk, walks, ends}
use Rattle.walks.proofs.Walk.Locals.{at, pointer, sets, reads_as}
use Rattle.walks.proofs.Walk.Memory.{array_out, array_in}
use Rattle.walks.proofs.Walk.Loop.{Turn, turns, turn_of, loop_then, leaves_rest, tests}

-- ---- of lists
module _ {D : Type 0} (none : D) (t ys : List D) (e : length t ≡ length ys) where
  -- the first i of t, and then those of ys
  abbrev pub stored : ℕ → List D
  stored i = take i t ++ drop i ys

  pub stored_length : (i : ℕ) → i ≤ length ys → length (stored i) ≡ length ys
  stored_length i l = length-append (take i t) (drop i ys) ∙ omega (arith, length-take-le i t (omega arith), length-drop i ys)

  pub stored_suc : (i : ℕ) → i < length ys → set (stored i) i (get_or t i none) ≡ stored (i + 1)
  stored_suc i l =
      ap (λ (us : List D). set (take i t ++ us) i (get_or t i none)) (drop-cons ys i none l) ∙ set_at (take i t) (get_or ys i none) (drop (suc i) ys) (get_or t i none) i (length-take-le i t (omega arith))
      ∙ sym (append_snoc (take i t) (get_or t i none) (drop (suc i) ys)) ∙ ap (λ (us : List D). us ++ drop (suc i) ys) (sym (take-suc t i none (omega arith))) ∙ ap stored (sym (add-one i))

  pub stored_all : (i : ℕ) → length ys ≤ i → stored i ≡ t
  stored_all i g = ap (λ (us : List D). take i t ++ us) (drop_of_length-le ys g) ∙ append-nil (take i t) ∙ take_all i t (omega arith)

module _ (S : Struct) (none : Of (struct S)) (N : ℕ) where
  abbrev D : Type 0
  D = Of (struct S)

  abbrev Records : Value
  Records = array (struct S) N

  abbrev ty : Ty
  ty = by_value S

  abbrev slice : Ty
  slice = slice_ty (ty_ref (named 0) mut (by_name S))

  abbrev pub store_terms : Terms
  store_terms = record {
    params = mutable (struct S) ∷ plain Records ∷ [];
    result = nothing;
    requires = some (λ a. length a.0 ≡ N);
    ensures = λ a r ws. ws.0 ≡ a.1.0;
  }

  abbrev turn : Body
  turn = seq (assign (place 5 []) (op2 (lt unsigned) (copy (place 4 [])) (int w64 N)))
      (seq (cond (copy (place 5 [])) skip (exit 1))
      (seq (assign (place 6 []) (op2 (mul unsigned) (copy (place 4 [])) (int w64 (size ty))))
      (seq (assign (place 7 []) (addr_of (place 3 [])))
      (seq (assign (place 8 []) (op2 offset (copy (place 7 [])) (copy (place 6 []))))
      (seq (assign (place 9 []) (rv_opd (copy (place 8 (deref ty ∷ [])))))
      (seq (assign (place 10 []) (op2 (mul unsigned) (copy (place 4 [])) (int w64 (size ty))))
      (seq (assign (place 11 []) (op2 offset (copy (place 1 (field 0 ∷ []))) (copy (place 10 []))))
      (seq (assign (place 11 (deref ty ∷ [])) (rv_opd (copy (place 9 []))))
      (assign (place 4 []) (op2 (add unsigned) (copy (place 4 [])) (int w64 1)))))))))))

  abbrev rest : Body
  rest = seq (assign (place 0 []) (rv_opd opd_unit)) return

  abbrev pub store_mir : Fn
  store_mir = record {
    lifetimes = 1;
    outlives = [];
    ty_params = [];
    givens = 0;
    params = 2;
    locals = local ty_unit value_local ∷ local slice value_local ∷ local (ty_array ty N) value_local ∷ local (ty_array ty N) memory_slot ∷ local (ty_int w64) value_local ∷ local ty_bool value_local ∷ local (ty_int w64) value_local ∷ local ty_ptr value_local ∷ local ty_ptr value_local
        ∷ local ty value_local ∷ local (ty_int w64) value_local ∷ local ty_ptr value_local ∷ [];
    body = seq (assign (place 3 []) (rv_opd (copy (place 2 [])))) (seq (assign (place 4 []) (rv_opd (int w64 0))) (seq (block (loop turn)) rest));
  }

  -- what the turns carry: how many records are stored
  record State : Type 0 where
    i : ℕ
    le : i ≤ N

  abbrev fewer : State → State → Type 0
  fewer s u = N - s.i < N - u.i

  fewer_wf : WellFounded fewer
  fewer_wf = InvImage.wf (λ (s : State). N - s.i) lt-wf_rel.wf

  next : (s : State) → s.i < N → State
  next s l = record { i = s.i + 1; le = omega (arith, l) }

  module _ (small : Holds (ltb (size ty) (2 ^ 64))) (N-small : Holds (ltb N (2 ^ 64))) {M : Type 1} {𝓤 : Ura M} (𝓛 : Logic 𝓤) (𝓣 : Tables 𝓤 𝓛.H) where
    open 𝓛 use {H}

    module _ (κ : Lft) (q : Share) (xs : MutBor (List D)) (t : List D) (room : Room (struct S).row (length xs.now)) (is-t : Fits Records t) (long : length xs.now ≡ N) (bs : Blocks store_mir.locals) where
      abbrev E : Env 𝓤 H
      E = env 𝓤 H store_mir.locals bs

      abbrev Q : Post 𝓤 H
      Q = at_ret E (Exit 𝓛 store_terms (κ, tt) (q, tt) (xs, (t, tt)))

      same_length : length t ≡ length xs.now
      same_length = is-t.1.0.1 ∙ sym long

      -- the list when k records are stored
      abbrev zs : ℕ → List D
      zs = stored none t xs.now same_length

      -- the block of the array
      abbrev b₃ : ℕ
      b₃ = bs.1.1.1.0

      -- [the elements; the open borrow; _0; _1; _2 and _3, which are t; _4, which is i; _5; …; _11]
      abbrev At : State → Option Val → List (Item 𝓤)
      At s flag = ‵ (records (struct S).row full_share (zs s.i) xs.ref_ptr.0 xs.ref_ptr.1) ∷ ‵ (slice_open (struct S) κ q xs)
          ∷ cells 𝓤 H E (not-any ∷ some (slice_val xs.ref_ptr (length xs.now)) ∷ some (Records.val t) ∷ some (Records.val t) ∷ some (vint w64 s.i) ∷ flag ∷ []) ++ (‵ (dies 𝓤 H E) ∷ [])

      abbrev Inv : State → List (Item 𝓤)
      Inv s = At s not-any

      -- the code after the loop, when its test has failed
      after : (s : State) → N ≤ s.i → Sq 𝓛 (At s (some (vbool false))) (runs 𝓣.C 𝓣.Λ E rest Q)
      after s g =
          sets ! 2 refl (of_opd ! (unit_lit !)) (tt, tt) $ ends store_terms (κ, tt) (q, tt) (xs, (t, tt)) (some _ ∷ some _ ∷ some _ ∷ some _ ∷ some _ ∷ []) tt (zs s.i, (tt, tt)) ! refl
          (stored_length none t xs.now same_length s.i (omega (arith, s.le, long)), (tt, tt)) (stored_all none t xs.now same_length s.i (omega (arith, g, long)))

      more : (s : State) → ltb s.i N ≡ true → Sq 𝓛 (Inv s) (turns 𝓛 𝓣 fewer Inv E turn rest Q s)
      unfolding after_turn next
      more s z =
          sets ! 7 refl (bin ! (at ! 6 refl) (lit ! N-small) tt) (tt, tt) $ reads_as ! 7 refl (ap vbool z) $ stays ! (at ! 7 refl) $
          sets ! 8 refl (bin ! (at ! 6 refl) (lit ! small) (record { fits = bytes })) (tt, record { fits = bytes }) $ sets ! 9 refl (addr ! (from ! (stop !))) (tt, tt) $ sets ! 10 refl (bin ! (at ! 9 refl) (at ! 8 refl) tt) (tt, tt) $
          reads_as ! 10 refl (ap (vptr b₃) (sym (place_is (size ty) 0 s.i))) $
          -- [the elements of t; those of xs; the open borrow; _0; _1; _2; _4; …; _11]
          move ! (5 ∷ []) $ array_out ! (struct S) N t b₃ tt is-t $ takes ! S full_share t b₃ 0 s.i none in_t 9 10 refl refl refl (λ is_x. array_in ! (struct S) N t b₃ is-t.1.0.1 (λ _. move ! (1 ∷ 2 ∷ 3 ∷ 4 ∷ 5 ∷ 0 ∷ []) $
          sets ! 12 refl (bin ! (at ! 6 refl) (lit ! small) (record { fits = bytes })) (tt, record { fits = bytes }) $ sets ! 13 refl (bin ! (pointer ! 3 refl refl) (at ! 12 refl) tt) (tt, tt) $
          reads_as ! 13 refl (ap (vptr xs.ref_ptr.0) (sym (place_is (size ty) xs.ref_ptr.1 s.i))) $ writes ! S (zs s.i) xs.ref_ptr.0 xs.ref_ptr.1 s.i (get_or t s.i none) none is_x l 12 10 refl refl $
          rewrite ! 0 (λ (us : List D). ‵ (records (struct S).row full_share us xs.ref_ptr.0 xs.ref_ptr.1)) (stored_suc none t xs.now same_length s.i in_xs) refl $
          assigns_last ! (bin ! (at ! 6 refl) (lit ! tt) (record { fits = next_fits })) (from ! (stop !)) (store ! 6 refl (tt, record { fits = next_fits })) $
          forget ! 7 refl $ forget ! 8 refl $ forget ! 9 refl $ forget ! 10 refl $ forget ! 11 refl $ forget ! 12 refl $ forget ! 13 refl $ again ! fewer Inv s (next s h) (falls s.i h)))
        where
          h : s.i < N
          h = ltb-true s.i N z

          in_xs : s.i < length xs.now
          in_xs = omega (arith, long, h)

          in_t : s.i < length t
          in_t = omega (arith, same_length, in_xs)

          l : s.i < length (zs s.i)
          l = omega (arith, in_xs, stored_length none t xs.now same_length s.i (omega (arith, in_xs)))

          bytes : s.i * size ty < 2 ^ 64
          bytes = bytes_fit s.i (length xs.now) (size ty) in_xs room.1

          next_fits : s.i + 1 < 2 ^ 64
          next_fits = omega (arith, in_xs, room.0)

          falls : (k : ℕ) → k < N → N - (k + 1) < N - k
          falls k g = omega (arith, g)

      done : (s : State) → ltb s.i N ≡ false → Sq 𝓛 (Inv s) (turns 𝓛 𝓣 fewer Inv E turn rest Q s)
      done s z = sets ! 7 refl (bin ! (at ! 6 refl) (lit ! N-small) tt) (tt, tt) $ reads_as ! 7 refl (ap vbool z) $ leaves_rest ! (Below 𝓛 fewer Inv s) rest Q (at ! 7 refl) $ after s (ltb-false s.i N z)

      each_turn : (s : State) → Turn 𝓛 (Go {0}) 𝓣 fewer Inv E turn rest Q s
      each_turn s = turn_of 𝓣 fewer Inv E turn rest Q s (elim (tests (ltb s.i N)) [ inl z ↦ more s z | inr z ↦ done s z ])

      store_walk : Walk 𝓛 store_terms store_mir 𝓣.C 𝓣.Λ (κ, tt) (q, tt) (xs, (t, tt)) bs
      store_walk = sets ! 5 refl (of_opd ! (at ! 4 refl)) ((Records.lawful 𝓛).typed t _ is-t).0 $ sets ! 6 refl (of_opd ! (lit ! tt)) (tt, record { fits = lit< tt }) $ loop_then ! 𝓣 fewer fewer_wf Inv each_turn (record { i = 0; le = omega arith })

    pub store_meets : Triple 𝓤 (WpFn 𝓤 H 𝓣.C 𝓣.Λ store_mir) (triple 𝓛 store_terms)
    store_meets = walks 𝓛 store_terms store_mir 𝓣.C 𝓣.Λ (λ κs. (refl, (refl, tt))) (λ κs qs a are long bs. store_walk κs.0 qs.0 a.0 a.1.0 are.0.0.1 are.1.0 long bs)
