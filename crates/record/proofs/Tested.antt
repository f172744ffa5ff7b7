-- The step of a kind, written again, is the record where every field that the kind does not use is zero: what the test by `==` of fields answers is
-- what the record says. Assumes nothing.
use Rattle.std.proofs.Common.{◌≡◌, ◌&&◌, Bool, true, false, eqb, int_eq, refl, sym, ap, ◌∙◌, rules, tests, subst, Option, Some, None, Decides, SFits}
use Rattle.std.specs.Bool.{then_some}
use Rattle.std.specs.Int.{w64}
use Rattle.std.proofs.lemmas.Bool.Decides.{same_from_decides}
use Rattle.record.specs.Kinds.{kind_of, unused_zero}
use Rattle.record.specs.Record.{made, written, or_refused, said_as}
use Rattle.record.specs.declared.form.Fields.{Fields}
use Rattle.record.specs.declared.kind.Kind.{Kind}
use Rattle.record.specs.declared.Step.{Step}
use Rattle.record.proofs.Unused.{unused_exactly}

-- `==` of fields
abbrev equal : Fields → Fields → Bool
equal f g =
    eqb f.kind g.kind && (eqb f.a g.a && (eqb f.b g.b && (eqb f.selector g.selector && (int_eq f.minute.0 g.minute.0 &&
    (eqb f.number g.number && (eqb f.day g.day && (eqb f.eleven g.eleven && (eqb f.quantity.0 g.quantity.0 && int_eq f.amount.0 g.amount.0))))))))

equal_same : (f : Fields) → equal f f ≡ true
equal_same f = search (rules, tests)

equal_exactly : (f g : Fields) → Decides (equal f g) (f ≡ g)
equal_exactly f g = (λ e. search (rules, tests), λ e. rw e (equal_same g))

-- a step passes the test as it would pass the test of the unused fields
same_test : (t : Bool) (s : Step) → then_some t s ≡ or_refused t (Some s)
unfolding or_refused
same_test true s = refl
same_test false s = refl

-- fields of a known kind
pub tested : (k : Kind) (f g : Fields) → SFits w64 f.amount.0 → kind_of f.kind ≡ Some k → g ≡ written (made k f) → then_some (equal g f) (made k f) ≡ said_as (kind_of f.kind) f
unfolding said_as
tested k f g h n e =
    let exactly = subst (λ (w : Fields). Decides (unused_zero k f) (w ≡ f)) (sym e) (unused_exactly k f h n) in
    let test = same_from_decides (equal g f) (unused_zero k f) (equal_exactly g f) exactly in
    same_test (equal g f) (made k f) ∙ ap (λ (t : Bool). or_refused t (Some (made k f))) test ∙ sym (ap (λ (m : Option Kind). said_as m f) n)

-- fields of no kind
pub none : (n : Option Kind) (f : Fields) → n ≡ None → None ≡ said_as n f
unfolding said_as
none None f e = refl
none (Some k) f e = cc
