-- Plain data as the walks cite it: a type that owns only facts, with its one machine value and its laws.
--     Value            the type's row, the machine value as a function of the denotation, and what is proved of them: also that it has one MIR type (`one`), and how a `&` to it is made and read (`copied`)
--     Fits X x         x is a value of the type, at its machine value
--     number, boolean, nothing, struct, choice, array      an unsigned number, a truth value, `()`, a declared struct (`Struct`) or enum (`Enum`), and an array of values
-- Assumes nothing; the laws under a model assume `Logic`.
use Prim.Native.Nat.{ℕ}
use mathlib.Core.List.{List, [], ◌∷◌, map}
use seplogic.Ra.Ura.{Ura}
use mir.Syntax.{Width, Ty, named}
use mir.Val.{Val, vint, vbool, vunit}
use base.Logic.{SProp, ent, sep}
use base.Fml.{Lft}
use types.Logic.{Logic, sem}
use types.Kit.{‵, ◌$◌, ◌∵◌, !, qed, fsplit, fjoin, frame, done}
use denote.RattleType.{RattleType}
use denote.Shadow.{Pure, makes_shadow, pure_l, pure_i}
use denote.Laws.{Is, Tells, Makes, Lawful, Copy}
use denote.Memory.{pointee}
use denote.ArrayMemory.{Single}
use denote.Bor.{Bor}
use denote.Slice.{ShrSlice, shr_slice_vals, shr_slice_at, elements_shared}
use denote.Opens.{twice_dup}
use denote.Copied.{Copied, each_Twice, uint_Copied, bool_Copied, Nothing-Copied, Array-Copied}
use denote.Plain.{UInt, Boolean, Nothing, uint_Tells, uint_Lawful, bool_Tells, bool_Lawful, Nothing-Tells, Nothing-Lawful}
use denote.Array.{Array, each, array_val, Array-Tells, Array-Lawful}
use denote.Struct.Struct.{Plains, layout, Struct-Pure}
use denote.Struct.Declared.{Declared, fields, shape, row as row_of}
use denote.Struct.Laws as LL
use denote.Enum.Enum.{Plainss, Few, layout as enum-layout}
use denote.Enum.Declared as ED
use denote.Enum.Laws as EL

pub record Value : Type 2 where
  pub row : RattleType
  pub one : Single row.mir
  pub val : row.Denot → Val
  pub tells : Tells row (Is row) (λ x. val x ∷ [])
  pub pure : (x : row.Denot) (vs : List Val) → Pure (row.own_val x vs)
  pub lawful : {M : Type 1} {𝓤 : Ura M} (𝓛 : Logic 𝓤) → Lawful 𝓛 row
  pub copied : {M : Type 1} {𝓤 : Ura M} (𝓛 : Logic 𝓤) → Copied 𝓛 row

abbrev pub Of : Value → Type 0
Of X = X.row.Denot

abbrev pub Fits : (X : Value) → Of X → Type 0
Fits X x = Is X.row x (X.val x ∷ [])

abbrev pub number : Width → Value
number w = record {
  row = UInt w;
  one = tt;
  val = vint w;
  tells = uint_Tells w;
  pure = λ n vs. (tt, tt);
  lawful = λ 𝓛. uint_Lawful 𝓛 w;
  copied = λ 𝓛. uint_Copied 𝓛 w;
}

abbrev pub boolean : Value
boolean = record {
  row = Boolean;
  one = tt;
  val = vbool;
  tells = bool_Tells;
  pure = λ z vs. tt;
  lawful = λ 𝓛. bool_Lawful 𝓛;
  copied = λ 𝓛. bool_Copied 𝓛;
}

abbrev pub nothing : Value
nothing = record {
  row = Nothing;
  one = tt;
  val = λ u. vunit;
  tells = Nothing-Tells;
  pure = λ u vs. tt;
  lawful = λ 𝓛. Nothing-Lawful 𝓛;
  copied = λ 𝓛. Nothing-Copied 𝓛;
}

-- a declared type of plain data
pub record Struct : Type 2 where
  pub type : Declared
  pub laws : LL.Laws type
  pub plain : Plains (fields type)
  pub copy : LL.Copyables type.parts

abbrev pub struct : Struct → Value
struct S = record {
  row = row_of S.type;
  one = tt;
  val = LL.val S.type S.laws;
  tells = LL.tells S.type S.laws;
  pure = λ x. Struct-Pure (shape S.type) S.plain (S.type.to x);
  lawful = λ 𝓛. LL.lawful S.type S.laws 𝓛;
  copied = λ 𝓛. LL.copied S.type S.copy 𝓛;
}

-- its MIR type: by value, and behind a reference, where it is its name
abbrev pub by_value : Struct → Ty
by_value S = layout (shape S.type)

abbrev pub by_name : Struct → Ty
by_name S = pointee (row_of S.type).written

-- a declared enum of plain data
pub record Enum : Type 2 where
  pub type : ED.Declared
  pub laws : EL.Laws type
  pub plain : Plainss (ED.variants type)
  pub copy : EL.Copyabless type.parts
  pub few : Few (ED.shape type)

abbrev pub choice : Enum → Value
choice E = record {
  row = ED.row E.type;
  one = tt;
  val = EL.val E.type E.laws;
  tells = EL.tells E.type E.laws;
  pure = EL.pure E.type E.plain;
  lawful = λ 𝓛. EL.lawful E.type E.laws 𝓛 E.few;
  copied = λ 𝓛. EL.copied E.type E.copy 𝓛;
}

-- its MIR type, by value
abbrev pub choice_type : Enum → Ty
choice_type E = enum-layout (ED.shape E.type)

pub each_pure : (X : Value) (xs : List (Of X)) (us : List Val) → Pure (each (Of X) X.row.own_val xs us)
each_pure X [] [] = tt
each_pure X [] (u ∷ us) = tt
each_pure X (x ∷ xs) [] = tt
each_pure X (x ∷ xs) (u ∷ us) = (X.pure x (u ∷ []), each_pure X xs us)

abbrev pub array : Value → ℕ → Value
array X n = record {
  row = Array X.row n;
  one = tt;
  val = λ xs. array_val (map X.val xs);
  tells = Array-Tells X.row (λ x. X.val x ∷ []) X.tells n;
  pure = λ xs vs us. ((tt, tt), each_pure X xs us);
  lawful = λ 𝓛. Array-Lawful 𝓛 X.row (X.lawful 𝓛) n;
  copied = λ 𝓛. Array-Copied 𝓛 X.row (X.copied 𝓛) X.one n;
}

module _ {M : Type 1} {𝓤 : Ura M} (𝓛 : Logic 𝓤) (X : Value) where
  -- what it owns is had for nothing
  pub makes : Makes 𝓛 X.row (Is X.row)
  makes x vs p = makes_shadow 𝓛 (X.row.own_val x vs) (X.pure x vs) p

  -- so it can be had twice
  pub copy : Copy 𝓛 X.row
  copy = record { twice = λ x vs. qed 𝓛 (‵ (X.row.own_val x vs) ∷ []) ∵ pure_l ! (X.row.own_val x vs) (λ p. pure_i ! (X.row.own_val x vs) (X.pure x vs) p $ frame ! $ pure_i ! (X.row.own_val x vs) (X.pure x vs) p $ done !) }

  -- and so can a `&[T]` of them
  abbrev shown : Lft → Bor (List (Of X)) → SProp 𝓤
  shown κ x = sem 𝓛 ((ShrSlice (named 0) κ X.row).own_val x (shr_slice_vals x))

  pub shown_twice : (κ : Lft) (x : Bor (List (Of X))) → ent 𝓤 (shown κ x) (sep 𝓤 (shown κ x) (shown κ x))
  shown_twice κ x = qed 𝓛 (‵ ((ShrSlice (named 0) κ X.row).own_val x (shr_slice_vals x)) ∷ []) ∵ fsplit ! $ pure_l ! (shr_slice_at X.row x (shr_slice_vals x)) (λ p.
      twice_dup ! (elements_shared X.row x.now x.ref_ptr.0 x.ref_ptr.1) (each_Twice 𝓛 X.row (X.copied 𝓛) x.now x.ref_ptr.0 x.ref_ptr.1) κ $
      pure_i ! (shr_slice_at X.row x (shr_slice_vals x)) (tt, (tt, tt)) p $ fjoin ! $ frame ! $ pure_i ! (shr_slice_at X.row x (shr_slice_vals x)) (tt, (tt, tt)) p $ fjoin ! $ done !)
