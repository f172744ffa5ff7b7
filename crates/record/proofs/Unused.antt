-- A record says a step of its kind exactly where writing that step gives the record's fields again: what is written is the record with
-- zero in every field that the kind does not use (`blanked`), one computed line for each kind. Assumes nothing.
use mathlib.Core.Path.{◌≡◌, refl, sym, ap, ◌∙◌}
use mathlib.Core.Bool.{Bool, true, false, ◌&&◌, ◌||◌}
use mathlib.Core.List.{List, [], ◌∷◌}
use Prim.Native.Nat.{ℕ}
use lib.Dec.{eqb}
use lib.IntN.{ℤ, pos}
use mir.Syntax.{w64}
use mir.Val.{SFits, to_z, of_z}
use mir.ValLaws.{to_z-of_z}
use borrow.Author.Tests.{eqb-true, eq-eqb}
use Rattle.record.specs.declared.kind.Kind.{Kind}
use Rattle.record.specs.declared.kind.Kind.TheVariants.{Open, Window, Register, Requirement, Margin, Create, Terminate, Submit, Withdraw, Accept, AskReversal, AgreeReversal, GeneratorAmends, OperatorAmends}
use Rattle.std.specs.Prelude.{Some, Decides}
use Rattle.std.specs.List.{list_all}
use Rattle.std.proofs.lemmas.Bool.{and_parts}
use Rattle.record.specs.Kinds.{kind_of, Field, A, B, selector, number, day, eleven, quantity, amount, fields, member, uses, kind_number, value_of, used_or_zero, unused_zero}
use Rattle.record.specs.Record.{made, written}
use Rattle.record.specs.declared.form.Fields.{Fields}
use Rattle.record.proofs.KindNumbers.{number_of_kind}

-- a number that is used, and zero for one that is not
abbrev pub keep : Bool → ℕ → ℕ
keep true n = n
keep false n = 0

-- the same of a signed number
abbrev pub keep_z : Bool → ℤ → ℤ
keep_z true z = z
keep_z false z = pos 0

-- whether the kind uses the field
abbrev pub used : Kind → Field → Bool
used k x = member x (uses k)

-- the record of a kind, with zero in each field that the kind does not use
abbrev pub blanked : Kind → Fields → Fields
blanked k f = record {
  kind = kind_number k;
  a = keep (used k A) f.a;
  b = keep (used k B) f.b;
  selector = keep (used k selector) f.selector;
  minute = f.minute;
  number = keep (used k number) f.number;
  day = keep (used k day) f.day;
  eleven = keep (used k eleven) f.eleven;
  quantity = record { 0 = keep (used k quantity) f.quantity.0 };
  amount = record { 0 = keep_z (used k amount) f.amount.0 };
}

-- a step that is made of fields is written with just those that its kind uses
pub made_written : (k : Kind) (f : Fields) → written (made k f) ≡ blanked k f
made_written Open f = refl
made_written Window f = refl
made_written Register f = refl
made_written Requirement f = refl
made_written Margin f = refl
made_written Create f = refl
made_written Terminate f = refl
made_written Submit f = refl
made_written Withdraw f = refl
made_written Accept f = refl
made_written AskReversal f = refl
made_written AgreeReversal f = refl
made_written GeneratorAmends f = refl
made_written OperatorAmends f = refl

-- the bits of an amount are kept as the amount is
bits_kept : (u : Bool) (z : ℤ) → of_z w64 (keep_z u z) ≡ keep u (of_z w64 z)
bits_kept true z = refl
bits_kept false z = refl

-- each field of the blanked record
value_kept : (k : Kind) (f : Fields) (x : Field) → value_of (blanked k f) x ≡ keep (used k x) (value_of f x)
value_kept k f A = refl
value_kept k f B = refl
value_kept k f selector = refl
value_kept k f number = refl
value_kept k f day = refl
value_kept k f eleven = refl
value_kept k f quantity = refl
value_kept k f amount = bits_kept (used k amount) f.amount.0

-- a test of every field holds exactly where it holds of each
pub each : (p : Field → Bool) → list_all p fields ≡ true → (x : Field) → p x ≡ true
each p e =
    let (eA, e1) = and_parts _ _ e in
    let (eB, e2) = and_parts _ _ e1 in
    let (eS, e3) = and_parts _ _ e2 in
    let (eN, e4) = and_parts _ _ e3 in
    let (eD, e5) = and_parts _ _ e4 in
    let (e11, e6) = and_parts _ _ e5 in
    let (eQ, e7) = and_parts _ _ e6 in
    elim [ A ↦ eA | B ↦ eB | selector ↦ eS | number ↦ eN | day ↦ eD | eleven ↦ e11 | quantity ↦ eQ | amount ↦ (and_parts _ _ e7).0 ]

every : (p : Field → Bool) → ((x : Field) → p x ≡ true) → (xs : List Field) → list_all p xs ≡ true
every p h [] = refl
every p h (x ∷ xs) = λ i. h x i && every p h xs i

-- a field is as it was kept exactly where it is used or zero
kept_zero : (u : Bool) (n : ℕ) → (u || eqb n 0) ≡ true → n ≡ keep u n
kept_zero true n e = refl
kept_zero false n e = eqb-true n 0 e

zero_kept : (u : Bool) (n : ℕ) → n ≡ keep u n → (u || eqb n 0) ≡ true
zero_kept true n e = refl
zero_kept false n e = eq-eqb n 0 e

-- an amount that is used or zero is as it was kept
kept_amount : (u : Bool) (z : ℤ) → SFits w64 z → (u || eqb (of_z w64 z) 0) ≡ true → keep_z u z ≡ z
kept_amount true z f e = refl
kept_amount false z f e = ap (to_z w64) (sym (eqb-true (of_z w64 z) 0 e)) ∙ to_z-of_z w64 z f

module _ (k : Kind) (f : Fields) (h : SFits w64 f.amount.0) (n : kind_of f.kind ≡ Some k) where
  -- where every unused field is zero, the step that is made is written with the record's own fields
  pub made_back : unused_zero k f ≡ true → written (made k f) ≡ f
  made_back z =
      let zero_in : (x : Field) → used_or_zero k f x ≡ true = λ x. each (used_or_zero k f) z x in
      made_written k f ∙ λ i. record {
        kind = number_of_kind f.kind n i;
        a = sym (kept_zero (used k A) f.a (zero_in A)) i;
        b = sym (kept_zero (used k B) f.b (zero_in B)) i;
        selector = sym (kept_zero (used k selector) f.selector (zero_in selector)) i;
        minute = f.minute;
        number = sym (kept_zero (used k number) f.number (zero_in number)) i;
        day = sym (kept_zero (used k day) f.day (zero_in day)) i;
        eleven = sym (kept_zero (used k eleven) f.eleven (zero_in eleven)) i;
        quantity = record { 0 = sym (kept_zero (used k quantity) f.quantity.0 (zero_in quantity)) i };
        amount = record { 0 = kept_amount (used k amount) f.amount.0 h (zero_in amount) i };
      }

  -- and only there
  back_zero : written (made k f) ≡ f → unused_zero k f ≡ true
  back_zero e =
      every (used_or_zero k f)
      (λ x. zero_kept (used k x) (value_of f x) (ap (λ (g : Fields). value_of g x) (sym e ∙ made_written k f) ∙ value_kept k f x))
      fields

  pub unused_exactly : Decides (unused_zero k f) (written (made k f) ≡ f)
  unused_exactly = (made_back, back_zero)
