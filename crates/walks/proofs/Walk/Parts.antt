-- A long walk in parts, so that each is read and checked by itself.
--     past n b         what is left of a body b after its first n statements
--     From             a walk from there on. The parameters' `&mut`s are open, with these last values, and the locals after the parameters hold these values, or are room
-- Assumes nothing: these are definitions.
use mathlib.Core.Option.{Option, none, some}
use Prim.Native.Nat.{ℕ, zero, suc}
use mathlib.Core.List.{List, [], ◌∷◌, ◌++◌, map}
use seplogic.Ra.Ura.{Ura}
use mir.Syntax.{Fn, Body, skip, seq, assign, block, loop, cond, switch, exit, return, call, unreachable, call_v, lend_static}
use mir.Val.{Val}
use prog.Wp.{Calls, Loops}
use types.Logic.{Logic}
use contract.Lifetimes.{Lfts, Shares}
use types.Kit.{Sq, runs, at_ret, ‵}
use Rattle.walks.proofs.Walk.Terms.{Left, Terms, refs}
use Rattle.walks.proofs.Walk.Function.{opened, Arguments, machine, Exit}
use Rattle.walks.proofs.Walk.Body.{Blocks, env, cells, dies}

abbrev pub past : ℕ → Body → Body
past zero b = b
past (suc n) skip = skip
past (suc n) (seq a b) = past n b
past (suc n) (assign p r) = skip
past (suc n) (block b) = skip
past (suc n) (loop b) = skip
past (suc n) (cond o a b) = skip
past (suc n) (switch o a) = skip
past (suc n) (exit k) = skip
past (suc n) return = skip
past (suc n) (call f xs p) = skip
past (suc n) unreachable = skip
past (suc n) (call_v c ς xs p) = skip
past (suc n) (lend_static p τ c) = skip

module _ {M : Type 1} {𝓤 : Ura M} (𝓛 : Logic 𝓤) (c : Terms) (f : Fn) (C : Calls 𝓤 𝓛.H) (Λ : Loops 𝓤 𝓛.H) where
  open 𝓛 use {H}

  abbrev pub From : (κs : Lfts (refs c.params)) → Shares (refs c.params) → Arguments c κs → Blocks f.locals → ℕ → Left c.params → List (Option Val) → Type 1
  From κs qs a bs n ws us = Sq 𝓛 (opened 𝓤 0 c.params κs qs a ws ++ (cells 𝓤 H (env 𝓤 H f.locals bs) (none ∷ (map some (machine c κs a) ++ us)) ++ (‵ (dies 𝓤 H (env 𝓤 H f.locals bs)) ∷ [])))
      (runs C Λ (env 𝓤 H f.locals bs) (past n f.body) (at_ret (env 𝓤 H f.locals bs) (Exit 𝓛 c κs qs a)))
