-- A function's frame: its locals are allocated and its arguments stored before the body runs, and its locals are freed when it returns. So that a walk is of the body alone.
--     Blocks, env      a block for each local, and the environment of the locals in them
--     cells E vs       the locals' cells, in order: what each holds, or room for it. Past the end of vs there is room.        dies E       that they are freed, as one item
--     walks            the triple of a function, from a walk of its body. It begins with what the parameters are (`Function`'s `opened`) and then the locals: so local k stands k places past the former
--     ends, ends_over  how such a walk ends, at `return`
--     frames           what `calls` asks of the table of calls, of that of a function's environment
-- Assumes `Logic`.
use mathlib.Core.Path.{◌≡◌, refl, sym, subst}
use mathlib.Core.Option.{Option, none, some}
use Prim.Native.Nat.{ℕ, suc}
use mathlib.Core.List.{List, [], ◌∷◌, ◌++◌, map}
use seplogic.Ra.Ura.{Ura}
use base.Fraction.{full_share}
use lib.Dec.{T as Holds}
use mir.Syntax.{Ty, Local, Fn, named, return}
use mir.Val.{Val, WT, has_ty}
use base.Logic.{SProp, ent, sep, wand, id⊢, via, wand_i, all_i, guard_i}
use base.Fml.{Fml, ftrue, fsep, fat, froom, fdies}
use prog.Model.{Model}
use prog.Routine.{Env as Named}
use prog.Wp.{Heap, Env, Calls, Loops, Wp, WpFn, ty_of, alloc, params, pass, release, at_return}
use types.Logic.{Logic, sem}
use contract.Lifetimes.{Lfts, Shares}
use contract.Running.{Running, tables, tables_of}
use types.Kit.{Item, Seq, Sq, runs, at_ret, mean, ⋆, push, pop, ++⊢, ⊢++, ‵, raw, ◌⊛◌, ◌$◌, ◌∵◌, !, qed, by, move, drop, split, split3, join, use1, fsplit, fjoin, frame, suffices, done}
use types.Run.{look, returns}
use sound.WpLaws.{FmC, fm_of}
use denote.RattleType.{mirs}
use denote.Laws.{Typed, Lawfuls, all_Typed}
use denote.Ref.{mut_Lawful}
use denote.Slice.{shr_slice_Lawful, mut_slice_Lawful}
use denote.Steps.{nothing}
use denote.Triple.Statement.{Triple}
use Rattle.walks.proofs.Walk.Values.{Of, Fits}
use Rattle.walks.proofs.Walk.Terms.{Param, plain, shared, mutable, single, Left, Sized, Terms, Asks, refs, rows, machine_values, passed, triple}
use Rattle.walks.proofs.Walk.Function.{firsts, opened, Arguments, Handed, machine, Entry, Exit, leaves, opens, walked}

-- ---- the locals
abbrev pub Blocks : List Local → Type 0
Blocks [] = Unit {0}
Blocks (l ∷ ls) = ℕ × Blocks ls

module _ {M : Type 1} (𝓤 : Ura M) (H : Heap 𝓤) where
  abbrev pub env : (ls : List Local) → Blocks ls → Env 𝓤 H
  env [] bs = []
  env (l ∷ ls) bs = (ty_of 𝓤 H l, bs.0) ∷ env ls bs.1

  abbrev pub cell : Ty × ℕ → Option Val → Item 𝓤
  cell e none = ‵ (froom e.0 e.1 0)
  cell e (some v) = ‵ (fat full_share e.0 e.1 0 v)

  abbrev pub cells : Env 𝓤 H → List (Option Val) → List (Item 𝓤)
  cells [] vs = []
  cells (e ∷ E) [] = cell e none ∷ cells E []
  cells (e ∷ E) (v ∷ vs) = cell e v ∷ cells E vs

  abbrev pub dies : Env 𝓤 H → Fml
  dies [] = ftrue
  dies (e ∷ E) = fsep (fdies e.0 e.1) (dies E)

  -- the locals after the result begin with these types
  abbrev Prefix : List Local → List Ty → Type 0
  Prefix ls [] = Unit {0}
  Prefix [] (τ ∷ τs) = ⊥
  Prefix (l ∷ ls) (τ ∷ τs) = (ty_of 𝓤 H l ≡ τ) × Prefix ls τs

  abbrev pub Starts : List Local → List Ty → Type 0
  Starts [] τs = ⊥
  Starts (l ∷ ls) τs = Prefix ls τs

module _ {M : Type 1} {𝓤 : Ura M} (𝓛 : Logic 𝓤) where
  open 𝓛 use {H}

  abbrev ◌⊢◌ : SProp 𝓤 → SProp 𝓤 → Type 1
  P ⊢ Q = ent 𝓤 P Q

  abbrev ◌∗◌ : SProp 𝓤 → SProp 𝓤 → SProp 𝓤
  P ∗ Q = sep 𝓤 P Q

  abbrev ⟦◌⟧ : Fml → SProp 𝓤
  ⟦ P ⟧ = sem 𝓛 P

  abbrev Cells : Env 𝓤 H → List (Option Val) → SProp 𝓤
  Cells E vs = ⋆ 𝓛 (cells 𝓤 H E vs)

  infix 26 ◌⊢◌
  infixr 35 ◌∗◌
  allocates : (ls : List Local) (R : SProp 𝓤) (K : Env 𝓤 H → SProp 𝓤) → ((bs : Blocks ls) → Cells (env 𝓤 H ls bs) [] ∗ ⟦ dies 𝓤 H (env 𝓤 H ls bs) ⟧ ∗ R ⊢ K (env 𝓤 H ls bs)) → R ⊢ alloc 𝓤 H ls K
  allocates [] R K k = qed 𝓛 (raw R ∷ []) ∵ suffices ! _ (k tt) $ nothing ! $ nothing ! $ done !
  allocates (l ∷ ls) R K k = all_i 𝓤 (λ (b : ℕ). wand 𝓤 (H.room (ty_of 𝓤 H l) b 0 ∗ H.dies (ty_of 𝓤 H l) b) (alloc 𝓤 H ls (λ E. K ((ty_of 𝓤 H l, b) ∷ E)))) (λ b.
      wand_i 𝓤 R (H.room (ty_of 𝓤 H l) b 0 ∗ H.dies (ty_of 𝓤 H l) b) (alloc 𝓤 H ls (λ E. K ((ty_of 𝓤 H l, b) ∷ E)))
      (allocates ls (R ∗ H.room (ty_of 𝓤 H l) b 0 ∗ H.dies (ty_of 𝓤 H l) b) (λ E. K ((ty_of 𝓤 H l, b) ∷ E)) (λ bs.
      qed 𝓛 (raw (Cells (env 𝓤 H ls bs) []) ∷ ‵ (dies 𝓤 H (env 𝓤 H ls bs)) ∷ (raw R ⊛ ‵ (froom (ty_of 𝓤 H l) b 0) ⊛ ‵ (fdies (ty_of 𝓤 H l) b)) ∷ []) ∵ suffices ! _ (k (b, bs)) $ move ! (2 ∷ []) $ split3 ! $ move ! (1 ∷ 3 ∷ []) $ join ! $
      use1 𝓛 (raw (Cells (env 𝓤 H (l ∷ ls) (b, bs)) [])) (push 𝓛 (‵ (froom (ty_of 𝓤 H l) b 0)) (cells 𝓤 H (env 𝓤 H ls bs) [])) $ frame ! $ move ! (1 ∷ 2 ∷ []) $ fjoin ! $ done !)))

  -- the arguments are stored
  passes : (ls : List Local) (bs : Blocks ls) (τs : List Ty) (vs : List Val) (R P : SProp 𝓤) → Prefix 𝓤 H ls τs → Typed τs vs → Cells (env 𝓤 H ls bs) (map some vs) ∗ R ⊢ P → Cells (env 𝓤 H ls bs) [] ∗ R ⊢ pass 𝓤 H (env 𝓤 H ls bs) vs P
  passes ls bs [] [] R P m t h = h
  passes ls bs [] (v ∷ vs) R P m t h = absurd t
  passes ls bs (τ ∷ τs) [] R P m t h = absurd t
  passes [] bs (τ ∷ τs) (v ∷ vs) R P m t h = absurd m
  passes (l ∷ ls) bs (τ ∷ τs) (v ∷ vs) R P m t h =
      let σ : Ty = ty_of 𝓤 H l in
      let Q : SProp 𝓤 = pass 𝓤 H (env 𝓤 H ls bs.1) vs P in
      via 𝓤 (H.room σ bs.0 0 ∗ wand 𝓤 (H.at full_share σ bs.0 0 v) Q)
      (qed 𝓛 (raw (Cells (env 𝓤 H (l ∷ ls) bs) []) ∷ raw R ∷ []) ∵ use1 𝓛 (‵ (froom σ bs.0 0) ⊛ raw (Cells (env 𝓤 H ls bs.1) [])) (pop 𝓛 (‵ (froom σ bs.0 0)) (cells 𝓤 H (env 𝓤 H ls bs.1) [])) $ split ! $ frame ! $
      by ! (wand_i 𝓤 (Cells (env 𝓤 H ls bs.1) [] ∗ R) (H.at full_share σ bs.0 0 v) Q
      (qed 𝓛 ((raw (Cells (env 𝓤 H ls bs.1) []) ⊛ raw R) ∷ ‵ (fat full_share σ bs.0 0 v) ∷ []) ∵ suffices ! _ (passes ls bs.1 τs vs (H.at full_share σ bs.0 0 v ∗ R) P m.1 t.1
      (qed 𝓛 (raw (Cells (env 𝓤 H ls bs.1) (map some vs)) ∷ ‵ (fat full_share σ bs.0 0 v) ∷ raw R ∷ []) ∵ suffices ! _ h $ move ! (1 ∷ 0 ∷ []) $ join ! $
      use1 𝓛 (raw (Cells (env 𝓤 H (l ∷ ls) bs) (map some (v ∷ vs)))) (push 𝓛 (‵ (fat full_share σ bs.0 0 v)) (cells 𝓤 H (env 𝓤 H ls bs.1) (map some vs))) $ done !)) $
      split ! $ frame ! $ move ! (1 ∷ 0 ∷ []) $ done !)))
      (guard_i 𝓤 (Holds (has_ty σ v) × WT v) (H.room σ bs.0 0 ∗ wand 𝓤 (H.at full_share σ bs.0 0 v) Q) (subst (λ (ρ : Ty). Holds (has_ty ρ v) × WT v) (sym m.0) t.0))

  begins : (ls : List Local) (τs : List Ty) (vs : List Val) (R : SProp 𝓤) (K : Env 𝓤 H → SProp 𝓤) → Starts 𝓤 H ls τs → Typed τs vs
      → ((bs : Blocks ls) → Cells (env 𝓤 H ls bs) (none ∷ map some vs) ∗ ⟦ dies 𝓤 H (env 𝓤 H ls bs) ⟧ ∗ R ⊢ K (env 𝓤 H ls bs)) → R ⊢ alloc 𝓤 H ls (λ E. params 𝓤 H E vs (K E))
  begins [] τs vs R K m t k = absurd m
  begins (l ∷ ls) τs vs R K m t k = allocates (l ∷ ls) R (λ E. params 𝓤 H E vs (K E)) (λ bs.
      let room : Item 𝓤 = ‵ (froom (ty_of 𝓤 H l) bs.0 0) in
      qed 𝓛 (raw (Cells (env 𝓤 H (l ∷ ls) bs) []) ∷ ‵ (dies 𝓤 H (env 𝓤 H (l ∷ ls) bs)) ∷ raw R ∷ []) ∵ use1 𝓛 (room ⊛ raw (Cells (env 𝓤 H ls bs.1) [])) (pop 𝓛 room (cells 𝓤 H (env 𝓤 H ls bs.1) [])) $ split ! $
      suffices ! _ (passes ls bs.1 τs vs (H.room (ty_of 𝓤 H l) bs.0 0 ∗ ⟦ dies 𝓤 H (env 𝓤 H (l ∷ ls) bs) ⟧ ∗ R) (K (env 𝓤 H (l ∷ ls) bs)) m t
      (qed 𝓛 (raw (Cells (env 𝓤 H ls bs.1) (map some vs)) ∷ room ∷ ‵ (dies 𝓤 H (env 𝓤 H (l ∷ ls) bs)) ∷ raw R ∷ []) ∵ suffices ! _ (k bs) $ move ! (1 ∷ 0 ∷ []) $ join ! $
      use1 𝓛 (raw (Cells (env 𝓤 H (l ∷ ls) bs) (none ∷ map some vs))) (push 𝓛 room (cells 𝓤 H (env 𝓤 H ls bs.1) (map some vs))) $ done !)) $ move ! (1 ∷ []) $ done !)

  -- a cell is room, whatever it holds
  is_room : (e : Ty × ℕ) (v : Option Val) → mean 𝓛 (cell 𝓤 H e v) ⊢ H.room e.0 e.1 0
  is_room e none = id⊢ 𝓤 _
  is_room e (some v) = 𝓛.laws.at_room e.0 e.1 0 v

  releases : (E : Env 𝓤 H) (vs : List (Option Val)) (R P : SProp 𝓤) → R ⊢ P → Cells E vs ∗ ⟦ dies 𝓤 H E ⟧ ∗ R ⊢ release 𝓤 H E P
  releases [] vs R P h = qed 𝓛 (‵ ftrue ∷ ‵ ftrue ∷ raw R ∷ []) ∵ drop ! $ drop ! $ by ! h
  releases (e ∷ E) [] R P h =
      qed 𝓛 (raw (Cells (e ∷ E) []) ∷ ‵ (dies 𝓤 H (e ∷ E)) ∷ raw R ∷ []) ∵ use1 𝓛 (cell 𝓤 H e none ⊛ raw (Cells E [])) (pop 𝓛 (cell 𝓤 H e none) (cells 𝓤 H E [])) $ split ! $ move ! (2 ∷ []) $ fsplit ! $
      move ! (2 ∷ 0 ∷ []) $ join ! $ frame ! $ move ! (1 ∷ 0 ∷ []) $ by ! (releases E [] R P h)
  releases (e ∷ E) (v ∷ vs) R P h =
      qed 𝓛 (raw (Cells (e ∷ E) (v ∷ vs)) ∷ ‵ (dies 𝓤 H (e ∷ E)) ∷ raw R ∷ []) ∵ use1 𝓛 (cell 𝓤 H e v ⊛ raw (Cells E vs)) (pop 𝓛 (cell 𝓤 H e v) (cells 𝓤 H E vs)) $ split ! $ use1 𝓛 (‵ (froom e.0 e.1 0)) (is_room e v) $ move ! (2 ∷ []) $ fsplit ! $
      move ! (2 ∷ 0 ∷ []) $ join ! $ frame ! $ move ! (1 ∷ 0 ∷ []) $ by ! (releases E vs R P h)

  -- ---- a function
  lawfuls : (j : ℕ) (ps : List Param) (κs : Lfts (refs ps)) → Lawfuls 𝓛 (rows j ps κs)
  lawfuls j [] κs = tt
  lawfuls j (plain X ∷ ps) κs = (X.lawful 𝓛, lawfuls j ps κs)
  lawfuls j (shared X ∷ ps) κs = (shr_slice_Lawful 𝓛 (named j) κs.0 X.row, lawfuls (suc j) ps κs.1)
  lawfuls j (mutable X ∷ ps) κs = (mut_slice_Lawful 𝓛 (named j) κs.0 X.row, lawfuls (suc j) ps κs.1)
  lawfuls j (single X ∷ ps) κs = (mut_Lawful 𝓛 (named j) κs.0 X.row, lawfuls (suc j) ps κs.1)

  module _ (c : Terms) (f : Fn) (C : Calls 𝓤 H) (Λ : Loops 𝓤 H) where
    -- a walk of the body
    abbrev pub Walk : (κs : Lfts (refs c.params)) → Shares (refs c.params) → Arguments c κs → Blocks f.locals → Type 1
    Walk κs qs a bs = Sq 𝓛 (opened 𝓤 0 c.params κs qs a (firsts c.params (passed 0 c.params κs a)) ++ (cells 𝓤 H (env 𝓤 H f.locals bs) (none ∷ map some (machine c κs a)) ++ (‵ (dies 𝓤 H (env 𝓤 H f.locals bs)) ∷ [])))
        (runs C Λ (env 𝓤 H f.locals bs) f.body (at_ret (env 𝓤 H f.locals bs) (Exit 𝓛 c κs qs a)))

    pub walks : ((κs : Lfts (refs c.params)) → Starts 𝓤 H f.locals (mirs (rows 0 c.params κs)))
        → ((κs : Lfts (refs c.params)) (qs : Shares (refs c.params)) (a : Arguments c κs) → Handed c κs a → Asks c.requires (passed 0 c.params κs a) → (bs : Blocks f.locals) → Walk κs qs a bs)
        → Triple 𝓤 (WpFn 𝓤 H C Λ f) (triple 𝓛 c)
    unfolding WpFn
    walks m k = walked 𝓛 c (WpFn 𝓤 H C Λ f) (λ κs qs a are req.
        begins f.locals (mirs (rows 0 c.params κs)) (machine c κs a) (Entry 𝓛 c κs qs a) (λ E. Wp 𝓤 H C Λ E f.body (at_return 𝓤 H E (Exit 𝓛 c κs qs a))) (m κs)
        (all_Typed 𝓛 (rows 0 c.params κs) (lawfuls 0 c.params κs) a (machine_values 0 c.params κs a) are) (λ bs.
        let E : Env 𝓤 H = env 𝓤 H f.locals bs in
        let vs : List (Option Val) = none ∷ map some (machine c κs a) in
        let Γ : List (Item 𝓤) = cells 𝓤 H E vs ++ (‵ (dies 𝓤 H E) ∷ []) in
        let s : Sq 𝓛 (raw (Entry 𝓛 c κs qs a) ∷ Γ) (runs C Λ E f.body (at_ret E (Exit 𝓛 c κs qs a))) = opens c κs qs a ! tt $ k κs qs a are req bs in
        via 𝓤 (⋆ 𝓛 (raw (Entry 𝓛 c κs qs a) ∷ Γ))
        (qed 𝓛 (raw (Cells E vs) ∷ ‵ (dies 𝓤 H E) ∷ raw (Entry 𝓛 c κs qs a) ∷ []) ∵ suffices ! _ (push 𝓛 (raw (Entry 𝓛 c κs qs a)) Γ) $ move ! (2 ∷ []) $ frame ! $ by ! (++⊢ 𝓛 (cells 𝓤 H E vs) (‵ (dies 𝓤 H E) ∷ [])))
        s.prf))

module _ {M : Type 1} {𝓤 : Ura M} {𝓛 : Logic 𝓤} {K : Type 0} {C : Calls 𝓤 𝓛.H} {Λ : Loops 𝓤 𝓛.H} {e : Ty × ℕ} {E : Env 𝓤 𝓛.H} where
  open 𝓛 use {H}

  pub ends : (c : Terms) (κs : Lfts (refs c.params)) (qs : Shares (refs c.params)) (a : Arguments c κs) (vs : List (Option Val)) (r : Of c.result) (ws : Left c.params) → K → Fits c.result r → Sized c.params (passed 0 c.params κs a) ws → c.ensures (passed 0 c.params κs a) r ws
      → Seq K 𝓛 (opened 𝓤 0 c.params κs qs a ws ++ (cells 𝓤 H (e ∷ E) (some (c.result.val r) ∷ vs) ++ (‵ (dies 𝓤 H (e ∷ E)) ∷ []))) (runs C Λ (e ∷ E) return (at_ret (e ∷ E) (Exit 𝓛 c κs qs a)))
  ends c κs qs a vs r ws t is k en =
      let Δ : List (Item 𝓤) = opened 𝓤 0 c.params κs qs a ws in
      let v : Val = c.result.val r in
      let Γ : List (Item 𝓤) = cells 𝓤 H (e ∷ E) (some v ∷ vs) in
      let Γ' : List (Item 𝓤) = cells 𝓤 H E vs in
      let s : Seq K 𝓛 (‵ (fat full_share e.0 e.1 0 v) ∷ raw (⋆ 𝓛 Δ) ∷ raw (⋆ 𝓛 Γ') ∷ ‵ (dies 𝓤 H (e ∷ E)) ∷ []) (runs C Λ (e ∷ E) return (at_ret (e ∷ E) (Exit 𝓛 c κs qs a))) =
      returns t (look t 0 refl) $ record {
        prf = qed 𝓛 (‵ (fat full_share e.0 e.1 0 v) ∷ raw (⋆ 𝓛 Δ) ∷ raw (⋆ 𝓛 Γ') ∷ ‵ (dies 𝓤 H (e ∷ E)) ∷ []) ∵ suffices ! _ (releases 𝓛 (e ∷ E) (some v ∷ vs) (⋆ 𝓛 Δ) (Exit 𝓛 c κs qs a v) (leaves 𝓛 c κs qs a r ws is k en)) $
            move ! (0 ∷ 2 ∷ []) $ join ! $ use1 𝓛 (raw (⋆ 𝓛 Γ)) (push 𝓛 (‵ (fat full_share e.0 e.1 0 v)) Γ') $ frame ! $ move ! (1 ∷ 0 ∷ []) $ done !;
      } in
      record {
        prf = via 𝓤 (⋆ 𝓛 (‵ (fat full_share e.0 e.1 0 v) ∷ raw (⋆ 𝓛 Δ) ∷ raw (⋆ 𝓛 Γ') ∷ ‵ (dies 𝓤 H (e ∷ E)) ∷ []))
            (via 𝓤 (sep 𝓤 (⋆ 𝓛 Δ) (⋆ 𝓛 (Γ ++ (‵ (dies 𝓤 H (e ∷ E)) ∷ [])))) (⊢++ 𝓛 Δ (Γ ++ (‵ (dies 𝓤 H (e ∷ E)) ∷ [])))
            (qed 𝓛 (raw (⋆ 𝓛 Δ) ∷ raw (⋆ 𝓛 (Γ ++ (‵ (dies 𝓤 H (e ∷ E)) ∷ []))) ∷ []) ∵ move ! (1 ∷ []) $ use1 𝓛 (raw (⋆ 𝓛 Γ) ⊛ ‵ (dies 𝓤 H (e ∷ E))) (⊢++ 𝓛 Γ (‵ (dies 𝓤 H (e ∷ E)) ∷ [])) $ split ! $
            use1 𝓛 (‵ (fat full_share e.0 e.1 0 v) ⊛ raw (⋆ 𝓛 Γ')) (pop 𝓛 (‵ (fat full_share e.0 e.1 0 v)) Γ') $ split ! $ frame ! $ move ! (2 ∷ 0 ∷ []) $ done !))
            s.prf;
      }

-- the same over a function's locals as they stand in its MIR: for a walk whose locals have large types, which are then never taken apart
abbrev pub HasResult : List Local → Type 0
HasResult [] = ⊥
HasResult (l ∷ ls) = Unit {0}

module _ {M : Type 1} {𝓤 : Ura M} {𝓛 : Logic 𝓤} {K : Type 0} {C : Calls 𝓤 𝓛.H} {Λ : Loops 𝓤 𝓛.H} where
  open 𝓛 use {H}

  pub ends_over : (ls : List Local) (bs : Blocks ls) (c : Terms) (κs : Lfts (refs c.params)) (qs : Shares (refs c.params)) (a : Arguments c κs) (vs : List (Option Val)) (r : Of c.result) (ws : Left c.params) → K → HasResult ls → Fits c.result r → Sized c.params (passed 0 c.params κs a) ws → c.ensures (passed 0 c.params κs a) r ws
      → Seq K 𝓛 (opened 𝓤 0 c.params κs qs a ws ++ (cells 𝓤 H (env 𝓤 H ls bs) (some (c.result.val r) ∷ vs) ++ (‵ (dies 𝓤 H (env 𝓤 H ls bs)) ∷ []))) (runs C Λ (env 𝓤 H ls bs) return (at_ret (env 𝓤 H ls bs) (Exit 𝓛 c κs qs a)))
  ends_over [] bs c κs qs a vs r ws t has = absurd has
  ends_over (l ∷ ls) bs c κs qs a vs r ws t has = ends c κs qs a vs r ws t

-- the table of calls of a function's environment is monotone under a frame
pub frames : {M : Type 1} {𝓤 : Ura M} (𝓛 : Logic 𝓤) (𝓜 : Model 𝓤 𝓛.H) (𝓡 : Running 𝓤 𝓛.H 𝓜) (γ : Named) → FmC 𝓤 𝓛.H 𝓛.laws (tables 𝓤 𝓛.H 𝓜 𝓡 γ).C
unfolding tables_of
frames {𝓤 = 𝓤} 𝓛 𝓜 𝓡 γ = fm_of 𝓤 𝓛.H 𝓛.laws (tables_of 𝓤 𝓛.H 𝓜 (tables 𝓤 𝓛.H 𝓜 𝓡 γ))
