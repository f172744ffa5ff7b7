-- Bytes decode to a step exactly where they say it: each test of `decode_of` must have passed, and where all pass the answer is the step.
-- Assumes nothing.
use mathlib.Core.Path.{◌≡◌, refl, sym, ap, ◌∙◌}
use mathlib.Core.Logic.{◌↔◌}
use mathlib.Core.Bool.{Bool, true, false}
use mathlib.Core.List.{List}
use Prim.Native.Nat.{ℕ}
use lib.ListN.{length}
use borrow.Author.Tests.{eqb-true, eq-eqb}
use Rattle.std.specs.Prelude.{Option, Some, None}
use Rattle.std.proofs.lemmas.Option.{none-some}
use Rattle.record.specs.Form.{fields_of}
use Rattle.record.specs.Kinds.{kind_of, unused_zero}
use Rattle.record.specs.Record.{made, or_refused, said_as, decode_of}
use Rattle.record.specs.WellFormed.{Says}
use Rattle.record.specs.declared.kind.Kind.{Kind}
use Rattle.record.specs.declared.form.Fields.{Fields}
use Rattle.record.specs.declared.Step.{Step}

-- what is a step has passed the test
passed : {t : Bool} {d : Option Step} {s : Step} → or_refused t d ≡ Some s → (t ≡ true) × (d ≡ Some s)
unfolding or_refused
passed {t = true} e = (refl, e)
passed {t = false} e = absurd (none-some _ e)

-- and is of a known kind, with zero in every unused field
kind_says : (n : Option Kind) (f : Fields) {s : Step} → said_as n f ≡ Some s → (k : Kind) × (n ≡ Some k) × (unused_zero k f ≡ true) × (s ≡ made k f)
unfolding said_as
kind_says (Some k) f e = let (z, m) = passed e in (k, refl, z, (cc))
kind_says None f e = absurd (none-some _ e)

-- what bytes decode to, they say
pub says : (bs : List ℕ) (s : Step) → decode_of bs ≡ Some s → Says bs s
unfolding decode_of
says bs s e =
    let (l, d) = passed e in
    let (k, n, z, m) = kind_says (kind_of (fields_of bs).kind) (fields_of bs) d in
    record { long = eqb-true (length bs) 24 l; kind = k; is_kind = n; zero_unused = z; is_made = m }

-- of 24 bytes the fields say it all
pub fields_say : (bs : List ℕ) → length bs ≡ 24 → said_as (kind_of (fields_of bs).kind) (fields_of bs) ≡ decode_of bs
unfolding decode_of or_refused
fields_say bs l = sym (ap (λ (t : Bool). or_refused t (said_as (kind_of (fields_of bs).kind) (fields_of bs))) (eq-eqb (length bs) 24 l))

-- what bytes say, they decode to
is_said : (bs : List ℕ) (s : Step) → Says bs s → decode_of bs ≡ Some s
unfolding said_as or_refused
is_said bs s c =
    sym (fields_say bs c.long)
    ∙ ap (λ (n : Option Kind). said_as n (fields_of bs)) c.is_kind
    ∙ ap (λ (t : Bool). or_refused t (Some (made c.kind (fields_of bs)))) c.zero_unused
    ∙ ap Some (sym c.is_made)

pub says_exactly : (bs : List ℕ) (s : Step) → (decode_of bs ≡ Some s) ↔ Says bs s
says_exactly bs s = (says bs s, is_said bs s)
