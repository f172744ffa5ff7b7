-- An `if` in a walk, with the code after it, over variables and once: so where a walk cites it the kernel compares pieces of code, and not two weakest preconditions of them.
--     arm              what the arm of the branch is to reach: its end, after which `rest` runs
--     branch_then      the test is read. Where it holds the arm runs, and where it fails `rest`
--     branch_both      the same where there is an `else`: where the test fails that arm runs
--     within           the last statement of the arm, and then `rest`
-- Assumes `Logic`.
use mathlib.Core.Path.{◌≡◌, refl}
use mathlib.Core.Bool.{Bool, true, false, not}
use mathlib.Core.List.{List}
use lib.Dec.{T as Holds}
use seplogic.Ra.Ura.{Ura}
use mir.Syntax.{Opd as Operand, Body, seq, cond, skip}
use mir.Val.{vbool}
use prog.Wp.{Heap, Env, Calls, Loops, Wp, after_seq}
use types.Logic.{Logic}
use types.Kit.{Item, Seq, Step, step, Post, post, any_q, runs, ◌$◌}
use types.Run.{Opd, first, branches, skips}

it_holds : (y : Bool) → Holds y → y ≡ true
it_holds true h = refl
it_holds false h = absurd h

it_fails : (y : Bool) → Holds (not y) → y ≡ false
it_fails true h = absurd h
it_fails false h = refl

module _ {M : Type 1} {𝓤 : Ura M} {H : Heap 𝓤} (C : Calls 𝓤 H) (Λ : Loops 𝓤 H) (E : Env 𝓤 H) (rest : Body) (q : Post 𝓤 H) where
  abbrev pub arm : Post 𝓤 H
  arm = any_q (after_seq 𝓤 H (Wp 𝓤 H C Λ E rest (post 𝓤 H q)) (post 𝓤 H q))

module _ {M : Type 1} {𝓤 : Ura M} {𝓛 : Logic 𝓤} {K : Type 0} {Γ : List (Item 𝓤)} {C : Calls 𝓤 𝓛.H} {Λ : Loops 𝓤 𝓛.H} {E : Env 𝓤 𝓛.H} where
  open 𝓛 use {H}

  pub within : K → (rest : Body) (q : Post 𝓤 H) {a : Body} → Step K 𝓛 Γ (runs C Λ E (seq a rest) q) Γ (runs C Λ E a (arm C Λ E rest q))
  within t rest q = step (λ s. record { prf = s.prf })

  pub branch_then : K → (rest : Body) (q : Post 𝓤 H) {c : Operand} {a : Body} {y : Bool} → Opd K 𝓛 Γ E c (vbool y)
      → (y ≡ true → Seq K 𝓛 Γ (runs C Λ E a (arm C Λ E rest q))) → (y ≡ false → Seq K 𝓛 Γ (runs C Λ E rest q)) → Seq K 𝓛 Γ (runs C Λ E (seq (cond c a skip) rest) q)
  branch_then t rest q {c} {a} {y} o held failed = first t $ branches t o (λ h. held (it_holds y h)) (λ h. skips t $ record { prf = (failed (it_fails y h)).prf })

  pub branch_both : K → (rest : Body) (q : Post 𝓤 H) {c : Operand} {a b : Body} {y : Bool} → Opd K 𝓛 Γ E c (vbool y)
      → (y ≡ true → Seq K 𝓛 Γ (runs C Λ E a (arm C Λ E rest q))) → (y ≡ false → Seq K 𝓛 Γ (runs C Λ E b (arm C Λ E rest q))) → Seq K 𝓛 Γ (runs C Λ E (seq (cond c a b) rest) q)
  branch_both t rest q {c} {a} {b} {y} o held failed = first t $ branches t o (λ h. held (it_holds y h)) (λ h. failed (it_fails y h))
