-- A value in memory, as steps of a walk: behind a reference it is owned as its type's share of memory (`part_at`), and read and stored as a cell; in a local it is the local's cell.
--     value_out, value_in      the cell is taken out of the share, with what is known of the value, and a value is put in
--     local_out, local_in      a local's struct is lent: its cell is the share, and back
--     array_out, array_in      a local's array is lent as a slice: its cell is its elements, and back.        numbers_out, numbers_in      an array of numbers
-- Assumes `Logic`.
use mathlib.Core.Path.{◌≡◌, refl, subst}
use Prim.Native.Nat.{ℕ}
use mathlib.Core.List.{List, [], ◌∷◌}
use lib.ListN.{length}
use seplogic.Ra.Ura.{Ura}
use base.Fraction.{full_share}
use mir.Syntax.{Width, ty_int, ty_array}
use mir.Val.{Val}
use base.Fml.{Fml, fsep, fat}
use types.Logic.{Logic}
use types.Kit.{Item, Seq, Step, step, Goal, ‵, ◌$◌, move, drop, use1, rewrite, fsplit, fjoin, fpick, fpack, feq_i}
use types.Share.{arr_parts}
use denote.ArrayMemory.{Single, Array-apart, Array-whole}
use denote.Index.{row as records}
use denote.Laws.{Is, shows}
use denote.Memory.{cell_at, lone, part_at, part_of, shares}
use denote.Steps.{owned as made, peeks}
use Rattle.walks.proofs.Walk.Values.{Value, Of, Fits, Struct, struct, number, array, by_value, makes}

-- the cell of a local array
abbrev array_cell : (X : Value) (n : ℕ) → List (Of X) → ℕ → Fml
array_cell X n xs b = fat full_share (ty_array (lone X.row.mir) n) b 0 ((array X n).val xs)

module _ {M : Type 1} {𝓤 : Ura M} {𝓛 : Logic 𝓤} {K : Type 0} {Γ : List (Item 𝓤)} {G : Goal 𝓤 𝓛.H} where
  pub value_out : K → (X : Value) (x : Of X) (b o : ℕ) → (Fits X x → Seq K 𝓛 (‵ (cell_at full_share X.row.mir (X.val x ∷ []) b o) ∷ Γ) G) → Seq K 𝓛 (‵ (part_at X.row full_share x b o) ∷ Γ) G
  unfolding part_of
  value_out t X x b o k =
      fpick t (λ vs. fsplit t $ move t (1 ∷ []) $ peeks t X.row (Is X.row) (shows 𝓛 X.row) x vs (λ is. drop t $
      rewrite t 0 (λ (us : List Val). ‵ (cell_at full_share X.row.mir us b o)) (X.tells x vs is) refl $ k (subst (Is X.row x) (X.tells x vs is) is)))

  pub value_in : K → (X : Value) (x : Of X) (b o : ℕ) → Fits X x → Step K 𝓛 (‵ (part_at X.row full_share x b o) ∷ Γ) G (‵ (cell_at full_share X.row.mir (X.val x ∷ []) b o) ∷ Γ) G
  unfolding part_of
  value_in t X x b o is = step (λ s. made t X.row (Is X.row) (makes 𝓛 X) x _ is $ move t (1 ∷ 0 ∷ []) $ fjoin t $
      fpack t (List Val) (λ us. fsep (cell_at full_share X.row.mir us b o) (X.row.own_val x us)) (X.val x ∷ []) $ s)

  pub local_out : K → (S : Struct) (x : Of (struct S)) (b : ℕ) → Fits (struct S) x → Step K 𝓛 (‵ (part_at (struct S).row full_share x b 0) ∷ Γ) G (‵ (fat full_share (by_value S) b 0 ((struct S).val x)) ∷ Γ) G
  local_out t S x b is = step (λ s. use1 𝓛 (‵ (cell_at full_share (struct S).row.mir ((struct S).val x ∷ []) b 0)) (𝓛.laws.at_raw full_share (by_value S) b 0 ((struct S).val x)) $ value_in t (struct S) x b 0 is $ s)

  pub local_in : K → (S : Struct) (x : Of (struct S)) (b : ℕ) → (Fits (struct S) x → Seq K 𝓛 (‵ (fat full_share (by_value S) b 0 ((struct S).val x)) ∷ Γ) G) → Seq K 𝓛 (‵ (part_at (struct S).row full_share x b 0) ∷ Γ) G
  local_in t S x b k = value_out t (struct S) x b 0 (λ is. use1 𝓛 (‵ (fat full_share (by_value S) b 0 ((struct S).val x))) (𝓛.laws.raw_at full_share (by_value S) b 0 ((struct S).val x)) $ k is)

  module _ (t : K) (X : Value) (n : ℕ) (xs : List (Of X)) (b : ℕ) where
    pub array_out : Single X.row.mir → Fits (array X n) xs → Step K 𝓛 (‵ (records X.row full_share xs b 0) ∷ Γ) G (‵ (array_cell X n xs b) ∷ Γ) G
    array_out one is = step (λ s. use1 𝓛 (‵ (cell_at full_share (array X n).row.mir ((array X n).val xs ∷ []) b 0)) (𝓛.laws.at_raw full_share (ty_array (lone X.row.mir) n) b 0 ((array X n).val xs)) $ value_in t (array X n) xs b 0 is $
        use1 𝓛 (‵ ((arr_parts (shares X.row) n).part full_share xs b 0)) (Array-apart 𝓛 X.row full_share one n xs b 0) $ fsplit t $ drop t $ s)

    pub array_in : length xs ≡ n → (Fits (array X n) xs → Seq K 𝓛 (‵ (array_cell X n xs b) ∷ Γ) G) → Seq K 𝓛 (‵ (records X.row full_share xs b 0) ∷ Γ) G
    array_in long k = feq_i t ℕ (length xs) n long $ fjoin t $ use1 𝓛 (‵ (part_at (array X n).row full_share xs b 0)) (Array-whole 𝓛 X.row full_share n xs b 0) $
        value_out t (array X n) xs b 0 (λ is. use1 𝓛 (‵ (array_cell X n xs b)) (𝓛.laws.raw_at full_share (ty_array (lone X.row.mir) n) b 0 ((array X n).val xs)) $ k is)

  pub numbers_out : K → (w : Width) (n : ℕ) (xs : List ℕ) (b : ℕ) → Fits (array (number w) n) xs → Step K 𝓛 (‵ (records (number w).row full_share xs b 0) ∷ Γ) G (‵ (fat full_share (ty_array (ty_int w) n) b 0 ((array (number w) n).val xs)) ∷ Γ) G
  numbers_out t w n xs b = array_out t (number w) n xs b tt

  pub numbers_in : K → (w : Width) (n : ℕ) (xs : List ℕ) (b : ℕ) → length xs ≡ n → (Fits (array (number w) n) xs → Seq K 𝓛 (‵ (fat full_share (ty_array (ty_int w) n) b 0 ((array (number w) n).val xs)) ∷ Γ) G) → Seq K 𝓛 (‵ (records (number w).row full_share xs b 0) ∷ Γ) G
  numbers_in t w = array_in t (number w)
