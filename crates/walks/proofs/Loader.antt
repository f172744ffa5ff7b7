-- The first n records of a lent list, copied into an array of N that is empty past them, for any declared type of plain data:
--     fn load(xs: &[T], n: usize) -> [T; N] { let mut t = blank(); let mut i = 0; while i < n { t[i] = xs[i]; i += 1; } t }
-- A turn looks into the slice, copies record i out, and stores it among the array's elements. What the turns carry is the array: the first i records, and then empty ones.
--     blank_terms      the terms of the function by value that it calls
--     load_terms, load_mir, load_meets     its own, its MIR, and that it meets them where `blank` meets its
-- Assumes nothing.
use mathlib.Core.Path.{◌≡◌, refl, sym, subst, ap, ◌∙◌}
use mathlib.Core.Option.{Option, some, none as not-any}
use mathlib.Core.Bool.{true, false}
use mathlib.Core.Logic.{inl, inr}
use mathlib.Core.WellFounded.InvImage
use mathlib.Core.WellFounded.{WellFounded}
use Prim.Native.Nat.{ℕ, suc, ◌+◌, ◌-◌, ◌*◌, ◌<◌, ◌≤◌, ◌^◌}
use native.Mathlib.Numerals.{add-one}
use native.Mathlib.Omega.{arith}
use mathlib.Core.List.{List, [], ◌∷◌, ◌++◌}
use lib.Dec.{T as Holds, ltb, lit<}
use lib.ListN.{length, get_or, set, take, replicate, length-append, length-replicate}
use lib.Seq.{take-suc, length-take-le, set_at, append_snoc}
use lib.WfN.{lt-wf_rel}
use borrow.Author.Tests.{ltb-true, ltb-false}
use seplogic.Ra.Ura.{Ura}
use base.Fraction.{full_share}
use mir.Syntax.{Callee, Ty, Body, Fn, local, value_local, memory_slot, named, imm, unsigned, w64, ty_int, ty_bool, ty_ptr, ty_ref, ty_array, place, field, deref, copy, int, rv_opd, op2, addr_of, add, mul, lt, offset, assign, call, seq, cond, block, loop, skip, exit, return}
use mir.Val.{Val, vint, vbool, vptr}
use base.Fml.{Lft, Share, flft}
use prog.Memory.{size}
use prog.Wp.{Env, WpFn, Tables, after_turn}
use types.Logic.{Logic}
use types.Kit.{Go, Item, Sq, Post, runs, at_ret, ‵, ◌$◌, !, move, rewrite}
use types.Run.{Below, store, forget, stop, from, lit, addr, of_opd, bin, no_more, assigns_last, stays, again}
use sound.WpLaws.{FmC}
use denote.Ref.{Bor}
use denote.Slice.{slice_ty, slice_val, Room}
use denote.Index.{row as records, place_is}
use denote.Triple.Statement.{Triple}
use Rattle.walks.proofs.Element.{bytes_fit, reference, reads, writes}
use Rattle.walks.proofs.Walk.Values.{Value, Of, Fits, Struct, struct, by_value, by_name, number, array}
use Rattle.walks.proofs.Walk.Terms.{Terms, plain, shared, triple}
use Rattle.walks.proofs.Walk.Calls.{calls}
use Rattle.walks.proofs.Walk.Function.{Exit}
use Rattle.walks.proofs.Walk.Body.{Blocks, env, cells, dies, Walk, walks, ends}
use Rattle.walks.proofs.Walk.Locals.{at, pointer, sets, gets, reads_as}
use Rattle.walks.proofs.Walk.Memory.{array_out, array_in}
use Rattle.walks.proofs.Walk.Loop.{Turn, turns, turn_of, loop_then, leaves_rest, tests}

-- ---- of lists
module _ {D : Type 0} (none : D) (N : ℕ) (xs : List D) where
  -- the first i of xs, and then empty ones
  abbrev pub loaded : ℕ → List D
  loaded i = take i xs ++ replicate (N - i) none

  loaded_none : replicate N none ≡ loaded 0
  loaded_none = ap (λ (k : ℕ). replicate k none) all
    where
      all : N ≡ N - 0
      all = omega arith

  loaded_suc : (i : ℕ) → i < length xs → i < N → set (loaded i) i (get_or xs i none) ≡ loaded (i + 1)
  loaded_suc i l h =
      ap (λ (k : ℕ). set (take i xs ++ replicate k none) i (get_or xs i none)) one_less ∙ set_at (take i xs) none (replicate (N - (i + 1)) none) (get_or xs i none) i (length-take-le i xs (omega arith))
      ∙ sym (append_snoc (take i xs) (get_or xs i none) (replicate (N - (i + 1)) none)) ∙ ap (λ (us : List D). us ++ replicate (N - (i + 1)) none) (sym (take-suc xs i none l) ∙ ap (λ (k : ℕ). take k xs) (sym (add-one i)))
    where
      one_less : N - i ≡ suc (N - (i + 1))
      one_less = omega arith

  loaded_length : (i : ℕ) → i ≤ length xs → i ≤ N → length (loaded i) ≡ N
  loaded_length i l h = length-append (take i xs) (replicate (N - i) none) ∙ omega (arith, length-take-le i xs l, length-replicate (N - i) none)

module _ (S : Struct) (none : Of (struct S)) (N : ℕ) where
  abbrev D : Type 0
  D = Of (struct S)

  abbrev Records : Value
  Records = array (struct S) N

  abbrev ty : Ty
  ty = by_value S

  abbrev arr : Ty
  arr = ty_array ty N

  abbrev shr : Ty
  shr = slice_ty (ty_ref (named 0) imm (by_name S))

  abbrev pub blank_terms : Terms
  blank_terms = record {
    params = [];
    result = Records;
    requires = not-any;
    ensures = λ a r ws. r ≡ replicate N none;
  }

  abbrev pub load_terms : Terms
  load_terms = record {
    params = shared (struct S) ∷ plain (number w64) ∷ [];
    result = Records;
    requires = some (λ a. (a.1.0 ≤ length a.0) × (a.1.0 ≤ N));
    ensures = λ a r ws. r ≡ take a.1.0 a.0 ++ replicate (N - a.1.0) none;
  }

  module _ (blank : Callee) where
    abbrev turn : Body
    turn = seq (assign (place 6 []) (op2 (lt unsigned) (copy (place 4 [])) (copy (place 2 []))))
        (seq (cond (copy (place 6 [])) skip (exit 1))
        (seq (assign (place 7 []) (op2 (mul unsigned) (copy (place 4 [])) (int w64 (size ty))))
        (seq (assign (place 8 []) (op2 offset (copy (place 1 (field 0 ∷ []))) (copy (place 7 []))))
        (seq (assign (place 9 []) (rv_opd (copy (place 8 (deref ty ∷ [])))))
        (seq (assign (place 10 []) (op2 (mul unsigned) (copy (place 4 [])) (int w64 (size ty))))
        (seq (assign (place 11 []) (addr_of (place 3 [])))
        (seq (assign (place 12 []) (op2 offset (copy (place 11 [])) (copy (place 10 []))))
        (seq (assign (place 12 (deref ty ∷ [])) (rv_opd (copy (place 9 []))))
        (assign (place 4 []) (op2 (add unsigned) (copy (place 4 [])) (int w64 1)))))))))))

    abbrev rest : Body
    rest = seq (assign (place 0 []) (rv_opd (copy (place 3 [])))) return

    abbrev pub load_mir : Fn
    load_mir = record {
      lifetimes = 1;
      outlives = [];
      ty_params = [];
      givens = 0;
      params = 2;
      locals = local arr value_local ∷ local shr value_local ∷ local (ty_int w64) value_local ∷ local arr memory_slot ∷ local (ty_int w64) value_local ∷ local arr value_local ∷ local ty_bool value_local ∷ local (ty_int w64) value_local ∷ local ty_ptr value_local ∷ local ty value_local
          ∷ local (ty_int w64) value_local ∷ local ty_ptr value_local ∷ local ty_ptr value_local ∷ [];
      body = seq (call blank [] (place 5 [])) (seq (assign (place 3 []) (rv_opd (copy (place 5 [])))) (seq (assign (place 4 []) (rv_opd (int w64 0))) (seq (block (loop turn)) rest)));
    }

    -- ---- what the turns carry: how many records are copied, and that the array of them is one
    module _ (xs : List D) (n : ℕ) where
      record State : Type 0 where
        i : ℕ
        le : i ≤ n
        is : Fits Records (loaded none N xs i)

      abbrev fewer : State → State → Type 0
      fewer s u = n - s.i < n - u.i

      fewer_wf : WellFounded fewer
      fewer_wf = InvImage.wf (λ (s : State). n - s.i) lt-wf_rel.wf

      next : (s : State) → s.i < n → Fits Records (loaded none N xs (s.i + 1)) → State
      next s l is = record { i = s.i + 1; le = omega (arith, l); is = is }

    module _ (small : Holds (ltb (size ty) (2 ^ 64))) {M : Type 1} {𝓤 : Ura M} (𝓛 : Logic 𝓤) (𝓣 : Tables 𝓤 𝓛.H) (fm : FmC 𝓤 𝓛.H 𝓛.laws 𝓣.C) where
      open 𝓛 use {H}

      module _ (κ : Lft) (q : Share) (xs : Bor (List D)) (n : ℕ) (room : Room (struct S).row (length xs.now)) (fits : n < 2 ^ 64) (req : (n ≤ length xs.now) × (n ≤ N)) (bs : Blocks load_mir.locals) where
        abbrev E : Env 𝓤 H
        E = env 𝓤 H load_mir.locals bs

        abbrev Q : Post 𝓤 H
        Q = at_ret E (Exit 𝓛 load_terms (κ, tt) (q, tt) (xs, (n, tt)))

        abbrev Turns : Type 0
        Turns = State xs.now n

        -- the first k records
        abbrev t : ℕ → List D
        t = loaded none N xs.now

        -- the block of t
        abbrev b₃ : ℕ
        b₃ = bs.1.1.1.0

        -- [the token; the reference; _0; _1; _2, which is n; _3, which is t; _4, which is i; _5; …; _12]
        abbrev At : Turns → Option Val → List (Item 𝓤)
        At s flag = ‵ (flft κ q) ∷ reference 𝓤 S κ xs ∷ cells 𝓤 H E (not-any ∷ some (slice_val xs.ref_ptr (length xs.now)) ∷ some (vint w64 n) ∷ some (Records.val (t s.i)) ∷ some (vint w64 s.i) ∷ not-any ∷ flag ∷ []) ++ (‵ (dies 𝓤 H E) ∷ [])

        abbrev Inv : Turns → List (Item 𝓤)
        Inv s = At s not-any

        -- the code after the loop, when its test has failed
        after : (s : Turns) → n ≤ s.i → Sq 𝓛 (At s (some (vbool false))) (runs 𝓣.C 𝓣.Λ E rest Q)
        after s g =
            sets ! 2 refl (of_opd ! (at ! 5 refl)) ((Records.lawful 𝓛).typed (t s.i) _ s.is).0 $
            ends load_terms (κ, tt) (q, tt) (xs, (n, tt)) (some _ ∷ some _ ∷ some _ ∷ some _ ∷ not-any ∷ some _ ∷ []) (t s.i) (tt, (tt, tt)) ! s.is (tt, (tt, tt)) (ap t all)
          where
            all : s.i ≡ n
            all = omega (arith, g, s.le)

        more : (s : Turns) → ltb s.i n ≡ true → Sq 𝓛 (Inv s) (turns 𝓛 𝓣 (fewer xs.now n) Inv E turn rest Q s)
        unfolding after_turn next
        more s z =
            sets ! 8 refl (bin ! (at ! 6 refl) (at ! 4 refl) tt) (tt, tt) $ reads_as ! 8 refl (ap vbool z) $ stays ! (at ! 8 refl) $
            sets ! 9 refl (bin ! (at ! 6 refl) (lit ! small) (record { fits = bytes })) (tt, record { fits = bytes }) $ sets ! 10 refl (bin ! (pointer ! 3 refl refl) (at ! 9 refl) tt) (tt, tt) $
            reads_as ! 10 refl (ap (vptr xs.ref_ptr.0) (sym (place_is (size ty) xs.ref_ptr.1 s.i))) $ reads ! S κ q xs s.i none l 8 9 refl refl refl (λ is_x.
            sets ! 12 refl (bin ! (at ! 6 refl) (lit ! small) (record { fits = bytes })) (tt, record { fits = bytes }) $ sets ! 13 refl (addr ! (from ! (stop !))) (tt, tt) $ sets ! 14 refl (bin ! (at ! 13 refl) (at ! 12 refl) tt) (tt, tt) $
            reads_as ! 14 refl (ap (vptr b₃) (sym (place_is (size ty) 0 s.i))) $
            -- [the elements of t; the token; the reference; _0; _1; _2; _4; …; _12]
            move ! (5 ∷ []) $ array_out ! (struct S) N (t s.i) b₃ tt s.is $ writes ! S (t s.i) b₃ 0 s.i (get_or xs.now s.i none) none is_x in_t 13 10 refl refl $
            rewrite ! 0 (λ (us : List D). ‵ (records (struct S).row full_share us b₃ 0)) grown refl $ array_in ! (struct S) N (t (s.i + 1)) b₃ long (λ is-t. move ! (1 ∷ 2 ∷ 3 ∷ 4 ∷ 5 ∷ 0 ∷ []) $
            assigns_last ! (bin ! (at ! 6 refl) (lit ! tt) (record { fits = next_fits })) (from ! (stop !)) (store ! 6 refl (tt, record { fits = next_fits })) $
            forget ! 8 refl $ forget ! 9 refl $ forget ! 10 refl $ forget ! 11 refl $ forget ! 12 refl $ forget ! 13 refl $ forget ! 14 refl $
            again ! (fewer xs.now n) Inv s (next xs.now n s h is-t) (falls s.i h)))
          where
            h : s.i < n
            h = ltb-true s.i n z

            l : s.i < length xs.now
            l = omega (arith, req.0, h)

            in_N : s.i < N
            in_N = omega (arith, h, req.1)

            long : length (t (s.i + 1)) ≡ N
            long = loaded_length none N xs.now (s.i + 1) (omega (arith, l)) (omega (arith, in_N))

            in_t : s.i < length (t s.i)
            in_t = omega (arith, in_N, s.is.1.0.1)

            grown : set (t s.i) s.i (get_or xs.now s.i none) ≡ t (s.i + 1)
            grown = loaded_suc none N xs.now s.i l in_N

            bytes : s.i * size ty < 2 ^ 64
            bytes = bytes_fit s.i (length xs.now) (size ty) l room.1

            next_fits : s.i + 1 < 2 ^ 64
            next_fits = omega (arith, fits, h)

            falls : (k : ℕ) → k < n → n - (k + 1) < n - k
            falls k g = omega (arith, g)

        done : (s : Turns) → ltb s.i n ≡ false → Sq 𝓛 (Inv s) (turns 𝓛 𝓣 (fewer xs.now n) Inv E turn rest Q s)
        done s z = sets ! 8 refl (bin ! (at ! 6 refl) (at ! 4 refl) tt) (tt, tt) $ reads_as ! 8 refl (ap vbool z) $ leaves_rest ! (Below 𝓛 (fewer xs.now n) Inv s) rest Q (at ! 8 refl) $ after s (ltb-false s.i n z)

        each_turn : (s : Turns) → Turn 𝓛 (Go {0}) 𝓣 (fewer xs.now n) Inv E turn rest Q s
        each_turn s = turn_of 𝓣 (fewer xs.now n) Inv E turn rest Q s (elim (tests (ltb s.i n)) [ inl z ↦ more s z | inr z ↦ done s z ])

        load_walk : Triple 𝓤 (𝓣.C blank) (triple 𝓛 blank_terms) → Walk 𝓛 load_terms load_mir 𝓣.C 𝓣.Λ (κ, tt) (q, tt) (xs, (n, tt)) bs
        load_walk known-blank =
            calls blank_terms ! fm known-blank tt tt (no_more !) (λ r ws e is-r len. gets ! 7 refl ((Records.lawful 𝓛).typed r _ is-r).0 $ sets ! 5 refl (of_opd ! (at ! 7 refl)) ((Records.lawful 𝓛).typed r _ is-r).0 $
            reads_as ! 5 refl (ap Records.val (e ∙ loaded_none none N xs.now)) $ forget ! 7 refl $ sets ! 6 refl (of_opd ! (lit ! tt)) (tt, record { fits = lit< tt }) $
            loop_then ! 𝓣 (fewer xs.now n) (fewer_wf xs.now n) Inv each_turn (record { i = 0; le = omega arith; is = subst (Fits Records) (e ∙ loaded_none none N xs.now) is-r }))

      pub load_meets : Triple 𝓤 (𝓣.C blank) (triple 𝓛 blank_terms) → Triple 𝓤 (WpFn 𝓤 H 𝓣.C 𝓣.Λ load_mir) (triple 𝓛 load_terms)
      load_meets known-blank = walks 𝓛 load_terms load_mir 𝓣.C 𝓣.Λ (λ κs. (refl, (refl, tt))) (λ κs qs a are req bs. load_walk κs.0 qs.0 a.0 a.1.0 are.0.0.1 are.1.0.1 req bs known-blank)
