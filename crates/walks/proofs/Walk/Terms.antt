-- The terms of a function whose parameters are plain data, by value or lent: what it is handed, what it requires and what it ensures, as plain facts. And the Hoare triple that they make, to which the triple of a generated contract of that form computes.
--     Param            a parameter: `T` by value, `&[T]`, `&mut [T]`, `&mut T`
--     Passed, Left     the values passed, and those that the `&mut`s are left with: a tuple with an entry for each parameter
--     Sized            a list behind a `&mut` is left as long as it was passed
--     Terms            parameters, result, requires, ensures.        Asks     what is required, as a type
--     triple           as `denote.Triple.Spec`'s `triple_of` has it, over the parameters' types (`rows`)
-- Assumes nothing: these are definitions.
use mathlib.Core.Path.{◌≡◌}
use mathlib.Core.Option.{Option, none, some}
use Prim.Native.Nat.{ℕ, zero, suc}
use mathlib.Core.List.{List, [], ◌∷◌}
use lib.ListN.{length}
use seplogic.Ra.Ura.{Ura}
use mir.Syntax.{named}
use mir.Val.{Val}
use base.Logic.{SProp, sep, ex, emp}
use base.Fml.{Lft, Fml, ftrue, fsep, fres, feq, fbor}
use types.Logic.{Logic, sem}
use types.SemTy.{Body as Borrowed}
use contract.Monad.{fact}
use contract.Lifetimes.{Lfts, Shares, toks}
use denote.RattleType.{RattleType, Denots, Valss, flat, owns}
use denote.Laws.{Spells, valss}
use denote.Lend.{Held}
use denote.Memory.{mem}
use denote.Ref.{MutBor, MutRef, mut_vals}
use denote.Slice.{ShrSlice, MutSlice, shr_slice_vals, mut_slice_vals, finally}
use denote.Triple.Statement.{Contract}
use Rattle.walks.proofs.Walk.Values.{Value, Of}

pub data Param : Type 2 where
  plain : Value → Param
  shared : Value → Param
  mutable : Value → Param
  single : Value → Param

abbrev pub Passed : List Param → Type 0
Passed [] = Unit {0}
Passed (plain X ∷ ps) = Of X × Passed ps
Passed (shared X ∷ ps) = List (Of X) × Passed ps
Passed (mutable X ∷ ps) = List (Of X) × Passed ps
Passed (single X ∷ ps) = Of X × Passed ps

abbrev pub Left : List Param → Type 0
Left [] = Unit {0}
Left (plain X ∷ ps) = Unit {0} × Left ps
Left (shared X ∷ ps) = Unit {0} × Left ps
Left (mutable X ∷ ps) = List (Of X) × Left ps
Left (single X ∷ ps) = Of X × Left ps

abbrev pub Sized : (ps : List Param) → Passed ps → Left ps → Type 0
Sized [] a ws = Unit {0}
Sized (plain X ∷ ps) a ws = Unit {0} × Sized ps a.1 ws.1
Sized (shared X ∷ ps) a ws = Unit {0} × Sized ps a.1 ws.1
Sized (mutable X ∷ ps) a ws = (length ws.0 ≡ length a.0) × Sized ps a.1 ws.1
Sized (single X ∷ ps) a ws = Unit {0} × Sized ps a.1 ws.1

pub record Terms : Type 2 where
  pub params : List Param
  pub result : Value
  pub requires : Option (Passed params → Type 0)
  pub ensures : Passed params → Of result → Left params → Type 0

-- where there is no such clause, nothing is required
abbrev pub Asks : {Y : Type 0} → Option (Y → Type 0) → Y → Type 0
Asks none x = Unit {0}
Asks (some φ) x = φ x

-- ---- the triple
-- how many lifetimes there are: one for each reference
abbrev pub refs : List Param → ℕ
refs [] = zero
refs (plain X ∷ ps) = refs ps
refs (shared X ∷ ps) = suc (refs ps)
refs (mutable X ∷ ps) = suc (refs ps)
refs (single X ∷ ps) = suc (refs ps)

-- the parameters' types, where the lifetimes of the first are numbered from j on
abbrev pub rows : ℕ → (ps : List Param) → Lfts (refs ps) → List RattleType
rows j [] κs = []
rows j (plain X ∷ ps) κs = X.row ∷ rows j ps κs
rows j (shared X ∷ ps) κs = ShrSlice (named j) κs.0 X.row ∷ rows (suc j) ps κs.1
rows j (mutable X ∷ ps) κs = MutSlice (named j) κs.0 X.row ∷ rows (suc j) ps κs.1
rows j (single X ∷ ps) κs = MutRef (named j) κs.0 X.row ∷ rows (suc j) ps κs.1

-- their machine values, as a function of what they denote
abbrev pub spells : (j : ℕ) (ps : List Param) (κs : Lfts (refs ps)) → Spells (rows j ps κs)
spells j [] κs = tt
spells j (plain X ∷ ps) κs = ((λ x. X.val x ∷ []), spells j ps κs)
spells j (shared X ∷ ps) κs = (shr_slice_vals, spells (suc j) ps κs.1)
spells j (mutable X ∷ ps) κs = (mut_slice_vals, spells (suc j) ps κs.1)
spells j (single X ∷ ps) κs = (mut_vals, spells (suc j) ps κs.1)

module _ (j : ℕ) (ps : List Param) (κs : Lfts (refs ps)) (a : Denots (rows j ps κs)) where
  abbrev pub machine_values : Valss (rows j ps κs)
  machine_values = valss (rows j ps κs) (spells j ps κs) a

abbrev pub passed : (j : ℕ) (ps : List Param) (κs : Lfts (refs ps)) → Denots (rows j ps κs) → Passed ps
passed j [] κs a = tt
passed j (plain X ∷ ps) κs a = (a.0, passed j ps κs a.1)
passed j (shared X ∷ ps) κs a = (a.0.now, passed (suc j) ps κs.1 a.1)
passed j (mutable X ∷ ps) κs a = (a.0.now, passed (suc j) ps κs.1 a.1)
passed j (single X ∷ ps) κs a = (a.0.now, passed (suc j) ps κs.1 a.1)

-- what is said of the last values: each is the last under its reference's name, and the reference's borrow is there, closed
module _ (X : Value) (κ : Lft) where
  abbrev pub slice_left : MutBor (List (Of X)) → List (Of X) → Fml
  slice_left x zs = fsep (fsep (finally X.row x.ghost_name zs) (feq ℕ (length zs) (length x.now))) (fbor κ (Held X.row (length x.now) x.ref_ptr.0 x.ref_ptr.1 x.ghost_name))

  abbrev pub value_left : MutBor (Of X) → Of X → Fml
  value_left x z = fsep (fres x.ghost_name (X.row.coded.code z)) (fbor κ (Borrowed (mem X.row) x.ref_ptr.0 x.ref_ptr.1 x.ghost_name))

abbrev pub lasts : (j : ℕ) (ps : List Param) (κs : Lfts (refs ps)) → Denots (rows j ps κs) → Left ps → Fml
lasts j [] κs a ws = ftrue
lasts j (plain X ∷ ps) κs a ws = fsep ftrue (lasts j ps κs a.1 ws.1)
lasts j (shared X ∷ ps) κs a ws = fsep ftrue (lasts (suc j) ps κs.1 a.1 ws.1)
lasts j (mutable X ∷ ps) κs a ws = fsep (slice_left X κs.0 a.0 ws.0) (lasts (suc j) ps κs.1 a.1 ws.1)
lasts j (single X ∷ ps) κs a ws = fsep (value_left X κs.0 a.0 ws.0) (lasts (suc j) ps κs.1 a.1 ws.1)

module _ {M : Type 1} (𝓤 : Ura M) where
  abbrev pub asks : {Y : Type 0} → Option (Y → Type 0) → Y → SProp 𝓤
  asks none x = emp 𝓤
  asks (some φ) x = fact 𝓤 (φ x)

module _ {M : Type 1} {𝓤 : Ura M} (𝓛 : Logic 𝓤) (c : Terms) where
  open 𝓛 use {H}

  abbrev pub Bound : Type 0
  Bound = (κs : Lfts (refs c.params)) × (qs : Shares (refs c.params)) × Unit {0} × (a : Denots (rows 0 c.params κs)) × Valss (rows 0 c.params κs)

  -- what stands after the call, at the machine value v
  abbrev pub Back : Bound → Val → Of c.result → SProp 𝓤
  Back y v r =
      sep 𝓤 (sep 𝓤 (toks 𝓛 (refs c.params) y.0 y.1) (sem 𝓛 (c.result.row.own_val r (v ∷ []))))
      (ex 𝓤 (λ (ws : Left c.params). sep 𝓤 (sem 𝓛 (lasts 0 c.params y.0 y.3 ws)) (fact 𝓤 (c.ensures (passed 0 c.params y.0 y.3) r ws))))

  abbrev pub triple : Contract 𝓤
  triple = record {
    Ghost = Bound × Unit {0};
    args = λ y. flat (rows 0 c.params y.0.0) y.0.4;
    pre = λ y. sep 𝓤 (sep 𝓤 (toks 𝓛 (refs c.params) y.0.0 y.0.1) (sem 𝓛 (owns (rows 0 c.params y.0.0) y.0.3 y.0.4))) (asks 𝓤 c.requires (passed 0 c.params y.0.0 y.0.3));
    post = λ y v. H.⇛ (ex 𝓤 (Back y.0 v));
  }
