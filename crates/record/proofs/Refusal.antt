-- Everything that says no step is refused, and nothing else: a list of bytes is refused exactly where its length, its kind or an unused
-- field is wrong. By the tests of `decode_of`, one after the other. Assumes nothing.
use mathlib.Core.Path.{◌≡◌, refl, sym, ap, ◌∙◌, subst}
use mathlib.Core.Logic.{◌↔◌}
use mathlib.Core.Bool.{Bool, true, false, ◌&&◌, ◌||◌}
use mathlib.Core.List.{List, [], ◌∷◌}
use Prim.Native.Nat.{ℕ}
use lib.Dec.{T, eqb}
use lib.ListN.{length, get_or}
use borrow.Author.Tests.{eqb-true, eqb-false}
use Rattle.std.specs.Prelude.{Option, Some, None}
use Rattle.std.specs.List.{list_all}
use Rattle.std.proofs.lemmas.Bool.{or_parts}
use Rattle.std.proofs.lemmas.Option.{none-some}
use Rattle.record.specs.Form.{fields_of}
use Rattle.record.specs.declared.kind.Kind.{Kind}
use Rattle.record.specs.declared.kind.Kind.TheVariants.{Open, Window, Register, Requirement, Margin, Create, Terminate, Submit, Withdraw, Accept, AskReversal, AgreeReversal, GeneratorAmends, OperatorAmends}
use Rattle.record.specs.Kinds.{kind_of, Field, eleven, fields, uses, member, value_of, used_or_zero, unused_zero}
use Rattle.record.specs.Record.{made, or_refused, said, said_as, decode_of}
use Rattle.record.specs.WellFormed.{Says, Malformed, wrong_length, kind_unknown, not_zero}
use Rattle.record.specs.declared.form.Fields.{Fields}
use Rattle.record.specs.declared.Step.{Step}
use Rattle.record.proofs.Says.{says}
use Rattle.record.proofs.Unused.{each}

-- an unused field of a record that says a step is zero
unused_zero_lem : (k : Kind) (f : Fields) (x : Field) → unused_zero k f ≡ true → member x (uses k) ≡ false → value_of f x ≡ 0
unused_zero_lem k f x z u =
    eqb-true (value_of f x) 0 (sym (ap (λ (t : Bool). t || eqb (value_of f x) 0) u) ∙ each (used_or_zero k f) z x)

-- malformed bytes say no step
no_step : {bs : List ℕ} {s : Step} → Malformed bs → Says bs s → ⊥
no_step (wrong_length n) c = n c.long
no_step (kind_unknown e) c = none-some c.kind (sym e ∙ c.is_kind)
no_step {bs} (not_zero k x n u z) c =
    let i = c.is_kind in
    let same : c.kind ≡ k = cc in
    z (unused_zero_lem k (fields_of bs) x (subst (λ (j : Kind). unused_zero j (fields_of bs) ≡ true) same c.zero_unused) u)

-- an answer that is no step is a refusal
refused : (d : Option Step) → ((s : Step) → d ≡ Some s → ⊥) → d ≡ None
refused (Some s) n = absurd (n s refl)
refused None n = refl

-- what is malformed is refused
pub malformed_refused : (bs : List ℕ) → Malformed bs → decode_of bs ≡ None
malformed_refused bs m = refused (decode_of bs) (λ s e. no_step m (says bs s e))

-- of another length than a record's
pub long_refused : (bs : List ℕ) → (length bs ≡ 24 → ⊥) → decode_of bs ≡ None
long_refused bs n = malformed_refused bs (wrong_length n)

-- a test of fields that fails, fails at one of them
fails_at : (p : Field → Bool) (xs : List Field) → list_all p xs ≡ false → (x : Field) × (p x ≡ false)
fails_at p [] e = absurd (subst T e tt)
fails_at p (x ∷ xs) e = by (p x) refl (λ h. fails_at p xs (sym (ap (λ (t : Bool). t && list_all p xs) h) ∙ e))
  where
    by : (t : Bool) → p x ≡ t → (p x ≡ true → (y : Field) × (p y ≡ false)) → (y : Field) × (p y ≡ false)
    by true h later = later h
    by false h later = (x, h)

-- a refusal of a record of a known kind comes of a field
unused_field : (k : Kind) (f : Fields) → said k f ≡ None → (x : Field) × (member x (uses k) ≡ false) × (value_of f x ≡ 0 → ⊥)
unfolding or_refused
unused_field k f e = by (unused_zero k f) refl
  where
    by : (t : Bool) → unused_zero k f ≡ t → (x : Field) × (member x (uses k) ≡ false) × (value_of f x ≡ 0 → ⊥)
    by true z = absurd (none-some _ (sym e ∙ ap (λ (t : Bool). or_refused t (Some (made k f))) z))
    by false z =
        let (x, n) = fails_at (used_or_zero k f) fields z in
        let (u, v) = or_parts (member x (uses k)) (eqb (value_of f x) 0) n in
        (x, u, eqb-false (value_of f x) 0 v)

-- a refusal of 24 bytes comes of their kind or of a field
refused_kind : (bs : List ℕ) (n : Option Kind) → kind_of (fields_of bs).kind ≡ n → said_as n (fields_of bs) ≡ None → Malformed bs
unfolding said_as
refused_kind bs (Some k) n e = let (x, u, v) = unused_field k (fields_of bs) e in not_zero k x n u v
refused_kind bs None n e = kind_unknown n

-- what is refused is malformed
pub refused_malformed : (bs : List ℕ) → decode_of bs ≡ None → Malformed bs
unfolding decode_of or_refused
refused_malformed bs e = by (eqb (length bs) 24) refl
  where
    by : (t : Bool) → eqb (length bs) 24 ≡ t → Malformed bs
    by true l = refused_kind bs (kind_of (fields_of bs).kind) refl (sym (ap (λ (t : Bool). or_refused t (said_as (kind_of (fields_of bs).kind) (fields_of bs))) l) ∙ e)
    by false l = wrong_length (eqb-false (length bs) 24 l)

pub refused_exactly : (bs : List ℕ) → (decode_of bs ≡ None) ↔ Malformed bs
refused_exactly bs = (refused_malformed bs, malformed_refused bs)

-- byte 11 is used by no kind
eleven_unused : (k : Kind) → member eleven (uses k) ≡ false
eleven_unused = elim [
  | Open ↦ refl
  | Window ↦ refl
  | Register ↦ refl
  | Requirement ↦ refl
  | Margin ↦ refl
  | Create ↦ refl
  | Terminate ↦ refl
  | Submit ↦ refl
  | Withdraw ↦ refl
  | Accept ↦ refl
  | AskReversal ↦ refl
  | AgreeReversal ↦ refl
  | GeneratorAmends ↦ refl
  | OperatorAmends ↦ refl
]

-- a record whose byte 11 is not zero is refused, whatever else it says
pub byte_eleven : (bs : List ℕ) → (get_or bs 11 0 ≡ 0 → ⊥) → decode_of bs ≡ None
byte_eleven bs n =
    refused (decode_of bs) (λ s e. let c = says bs s e in n (unused_zero_lem c.kind (fields_of bs) eleven c.zero_unused (eleven_unused c.kind)))
