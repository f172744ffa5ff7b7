-- A `while` in a walk, with the code after it: `types.Run`'s `first`, `blocks`, `loops` and `leaves_loop`, over variables and once. `Turn` is shut, so where a walk cites these the kernel compares pieces of code, and not two weakest preconditions of them.
--     Turn             what is to be shown of a turn from `I t`: it ends in a smaller t, or leaves the loop, after which `rest` runs.        turn_of      it is shown
--     loop_then        the loop from `I t`, and then `rest`
--     leaves_rest      the test fails, and `rest` runs
--     tests            a test holds, or it fails
-- Assumes `Logic`.
use mathlib.Core.Path.{◌≡◌, refl}
use mathlib.Core.Bool.{Bool, true, false}
use mathlib.Core.Logic.{◌⊎◌, inl, inr}
use mathlib.Core.WellFounded.{WellFounded}
use mathlib.Core.List.{List}
use seplogic.Ra.Ura.{Ura}
use mir.Syntax.{Opd as Operand, Body, seq, block, loop, cond, skip, exit}
use mir.Val.{vbool}
use base.Logic.{SProp}
use prog.Wp.{Env, Calls, Loops, Tables, Wp, after_seq, after_block, after_turn}
use types.Logic.{Logic}
use types.Kit.{Item, Goal, Seq, Step, step, Post, post, any_q, runs, ◌$◌}
use types.Run.{Below, Opd, loops, first, blocks, leaves_loop, exec}

pub tests : (z : Bool) → (z ≡ true) ⊎ (z ≡ false)
tests true = inl refl
tests false = inr refl

module _ {M : Type 1} {𝓤 : Ura M} (𝓛 : Logic 𝓤) where
  -- what a turn b is to reach: a smaller t, or the end of the loop and then `rest`
  open 𝓛 use {H}

  abbrev pub turns : {X : Type 0} → Tables 𝓤 H → (X → X → Type 0) → (X → List (Item 𝓤)) → Env 𝓤 H → (b rest : Body) → Post 𝓤 H → X → Goal 𝓤 H
  turns 𝓣 ≺ I E b rest q t = runs 𝓣.C 𝓣.Λ E b (any_q (after_turn 𝓤 H (Below 𝓛 ≺ I t) (after_block 𝓤 H (after_seq 𝓤 H (Wp 𝓤 H 𝓣.C 𝓣.Λ E rest (post 𝓤 H q)) (post 𝓤 H q)))))

module _ {M : Type 1} {𝓤 : Ura M} (𝓛 : Logic 𝓤) where
  open 𝓛 use {H}

  unfoldable pub Turn : (K : Type 0) {X : Type 0} → Tables 𝓤 H → (X → X → Type 0) → (X → List (Item 𝓤)) → Env 𝓤 H → (b rest : Body) → Post 𝓤 H → X → Type 1
  Turn K 𝓣 ≺ I E b rest q t = Seq K 𝓛 (I t) (turns 𝓛 𝓣 ≺ I E b rest q t)

module _ {M : Type 1} {𝓤 : Ura M} {𝓛 : Logic 𝓤} where
  open 𝓛 use {H}

  module _ {K : Type 0} {X : Type 0} where
    pub loop_then : K → (𝓣 : Tables 𝓤 H) (≺ : X → X → Type 0) → WellFounded ≺ → (I : X → List (Item 𝓤)) {E : Env 𝓤 H} {b rest : Body} {q : Post 𝓤 H}
        → ((t : X) → Turn 𝓛 K 𝓣 ≺ I E b rest q t) → (t : X) → Seq K 𝓛 (I t) (runs 𝓣.C 𝓣.Λ E (seq (block (loop b)) rest) q)
    unfolding Turn
    loop_then k 𝓣 ≺ wf I turn t = first k $ blocks k $ loops k 𝓣 ≺ wf I turn t

    pub turn_of : (𝓣 : Tables 𝓤 H) (≺ : X → X → Type 0) (I : X → List (Item 𝓤)) (E : Env 𝓤 H) (b rest : Body) (q : Post 𝓤 H) (t : X) → Seq K 𝓛 (I t) (turns 𝓛 𝓣 ≺ I E b rest q t) → Turn 𝓛 K 𝓣 ≺ I E b rest q t
    unfolding Turn
    turn_of 𝓣 ≺ I E b rest q t s = s

  module _ {K : Type 0} where
    pub leaves_rest : K → {C : Calls 𝓤 H} {Λ : Loops 𝓤 H} {E : Env 𝓤 H} {Γ : List (Item 𝓤)} {c : Operand} {b : Body} (B : SProp 𝓤) (rest : Body) (q : Post 𝓤 H) → Opd K 𝓛 Γ E c (vbool false)
        → Step K 𝓛 Γ (runs C Λ E rest q) Γ (runs C Λ E (seq (cond c skip (exit 1)) b) (any_q (after_turn 𝓤 H B (after_block 𝓤 H (after_seq 𝓤 H (Wp 𝓤 H C Λ E rest (post 𝓤 H q)) (post 𝓤 H q))))))
    unfolding after_turn
    leaves_rest k {C} {Λ} {E} B rest q o = step (λ s. leaves_loop k o $ exec k C Λ E rest q $ s)
