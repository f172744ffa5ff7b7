-- How a function's own proof begins and ends, for every function whose parameters are plain data, by value or lent (`Terms`).
--     Handed           what is known of the parameters at entry: a value is one of its type, and the elements of a slice have room
--     Entry            what is owned at entry, as one item of the context.        opened    the same taken apart: of a `&[T]` the token and the reference; of a `&mut [T]` the elements, and of a `&mut T` the value, each with the borrow that it was taken out of, open
--     opens            the step from the one to the other
--     leaves           how a walk ends: what was opened, at its last values, is closed, and the contract's postcondition holds
--     walked           the triple, from a walk from `Entry` with `Handed` and what is required in hand
-- Assumes `Logic`.
use mathlib.Core.Path.{◌≡◌, refl, sym, subst}
use mathlib.Core.Option.{Option, none, some as asking}
use Prim.Native.Nat.{ℕ, suc}
use mathlib.Core.List.{List, [], ◌∷◌, ◌++◌}
use lib.ListN.{length}
use seplogic.Ra.Ura.{Ura}
use base.Fraction.{full_share}
use mir.Syntax.{named}
use mir.Val.{Val}
use base.Logic.{SProp, ent, sep, emp, id⊢, via, fst∗, snd∗}
use base.Fml.{Lft, Share, Fml, ftrue, fsep, flft, fobs, fauth, fbor, fobor}
use types.Logic.{Logic, sem}
use contract.Monad.{Fun, fact, fact_use}
use contract.Lifetimes.{Lfts, Shares, toks}
use types.Kit.{Item, Step, Goal, Soaks, step, ⋆, ++⊢, ⊢++, ‵, raw, later, ◌⊛◌, ◌$◌, ◌∵◌, !, qed, by, cut, move, drop, use1, use2, split, join, rewrite, fsplit, fsplit3, fjoin, feq_i, show, frame, await, updating, now as at_once, done}
use types.Mut.{open_ref, close_ref}
use types.Tokens.{name_done}
use types.SemTy.{Body as Borrowed}
use denote.RattleType.{RattleType, Denots, Valss, flat, owns}
use denote.Laws.{Is, Ises, Are, Tellss, all_tell, owns_show, showss}
use denote.Memory.{mem, part_at}
use denote.Ref.{Bor, MutBor, MutRef, mut_vals, mut_Tells}
use denote.Slice.{ShrSlice, MutSlice, shr_slice_vals, mut_slice_vals, finally, res-finally, coded_holeys, heres, shr_slice_Tells, mut_slice_Tells}
use denote.Lend.{Held}
use denote.Index.{row as records, opens_slice, closes_slice}
use denote.Steps.{nothing, owned as made}
use denote.Triple.Statement.{Triple}
use denote.Triple.Walked.{says, needs}
use Rattle.walks.proofs.Walk.Values.{Value, Of, Fits, makes}
use Rattle.walks.proofs.Walk.Terms.{Param, plain, shared, mutable, single, Passed, Left, Sized, Terms, Asks, refs, rows, spells, machine_values, passed, slice_left, value_left, lasts, asks, Back, triple}

-- ---- the parameters' types tell their machine values
tell : (j : ℕ) (ps : List Param) (κs : Lfts (refs ps)) → Tellss (rows j ps κs) (Ises (rows j ps κs)) (spells j ps κs)
tell j [] κs = tt
tell j (plain X ∷ ps) κs = (X.tells, tell j ps κs)
tell j (shared X ∷ ps) κs = (shr_slice_Tells (named j) κs.0 X.row, tell (suc j) ps κs.1)
tell j (mutable X ∷ ps) κs = (mut_slice_Tells (named j) κs.0 X.row, tell (suc j) ps κs.1)
tell j (single X ∷ ps) κs = (mut_Tells (named j) κs.0 X.row, tell (suc j) ps κs.1)

module _ (j : ℕ) (ps : List Param) (κs : Lfts (refs ps)) (a : Denots (rows j ps κs)) where
  abbrev owned : Fml
  owned = owns (rows j ps κs) a (machine_values j ps κs a)

-- what the `&mut`s point at, as they are passed
abbrev pub firsts : (ps : List Param) → Passed ps → Left ps
firsts [] a = tt
firsts (plain X ∷ ps) a = (tt, firsts ps a.1)
firsts (shared X ∷ ps) a = (tt, firsts ps a.1)
firsts (mutable X ∷ ps) a = (a.0, firsts ps a.1)
firsts (single X ∷ ps) a = (a.0, firsts ps a.1)

-- ---- a reference that is opened: the borrow that its elements, or its value, were taken out of
module _ (X : Value) (κ : Lft) (q : Share) where
  abbrev pub slice_open : MutBor (List (Of X)) → Fml
  slice_open x = fsep (fobor κ q (Held X.row (length x.now) x.ref_ptr.0 x.ref_ptr.1 x.ghost_name)) (fsep (fobs x.ghost_name ((coded_holeys X.row).code (heres X.row x.now))) (fauth x.ghost_name ((coded_holeys X.row).code (heres X.row x.now))))

  abbrev pub value_open : MutBor (Of X) → Fml
  value_open x = fsep (fobor κ q (Borrowed (mem X.row) x.ref_ptr.0 x.ref_ptr.1 x.ghost_name)) (fsep (fobs x.ghost_name (X.row.coded.code x.now)) (fauth x.ghost_name (X.row.coded.code x.now)))

  module _ {M : Type 1} (𝓤 : Ura M) where
    abbrev shown_items : Bor (List (Of X)) → List (Item 𝓤)
    shown_items x = ‵ (flft κ q) ∷ ‵ ((ShrSlice (named 0) κ X.row).own_val x (shr_slice_vals x)) ∷ []

    abbrev slice_items : MutBor (List (Of X)) → List (Of X) → List (Item 𝓤)
    slice_items x zs = ‵ (records X.row full_share zs x.ref_ptr.0 x.ref_ptr.1) ∷ ‵ (slice_open x) ∷ []

    abbrev value_items : MutBor (Of X) → Of X → List (Item 𝓤)
    value_items x z = ‵ (part_at X.row full_share z x.ref_ptr.0 x.ref_ptr.1) ∷ ‵ (value_open x) ∷ []

module _ {M : Type 1} (𝓤 : Ura M) where
  abbrev pub opened : (j : ℕ) (ps : List Param) (κs : Lfts (refs ps)) → Shares (refs ps) → Denots (rows j ps κs) → Left ps → List (Item 𝓤)
  opened j [] κs qs a ws = []
  opened j (plain X ∷ ps) κs qs a ws = opened j ps κs qs a.1 ws.1
  opened j (shared X ∷ ps) κs qs a ws = shown_items X κs.0 qs.0 𝓤 a.0 ++ opened (suc j) ps κs.1 qs.1 a.1 ws.1
  opened j (mutable X ∷ ps) κs qs a ws = slice_items X κs.0 qs.0 𝓤 a.0 ws.0 ++ opened (suc j) ps κs.1 qs.1 a.1 ws.1
  opened j (single X ∷ ps) κs qs a ws = value_items X κs.0 qs.0 𝓤 a.0 ws.0 ++ opened (suc j) ps κs.1 qs.1 a.1 ws.1

module _ {M : Type 1} {𝓤 : Ura M} (𝓛 : Logic 𝓤) where
  open 𝓛 use {H, A}

  abbrev ◌⊢◌ : SProp 𝓤 → SProp 𝓤 → Type 1
  P ⊢ Q = ent 𝓤 P Q

  abbrev ◌∗◌ : SProp 𝓤 → SProp 𝓤 → SProp 𝓤
  P ∗ Q = sep 𝓤 P Q

  abbrev ⟦◌⟧ : Fml → SProp 𝓤
  ⟦ P ⟧ = sem 𝓛 P

  infix 26 ◌⊢◌
  infixr 35 ◌∗◌
  -- ---- one parameter: it is opened, and closed at its last value
  module _ (X : Value) (κ : Lft) (q : Share) where
    opens_slice_of : (x : MutBor (List (Of X))) → A.lft κ q ∗ ⟦ (MutSlice (named 0) κ X.row).own_val x (mut_slice_vals x) ⟧ ⊢ H.⇛ (⋆ 𝓛 (slice_items X κ q 𝓤 x x.now))
    opens_slice_of x =
        qed 𝓛 (‵ (flft κ q) ∷ ‵ ((MutSlice (named 0) κ X.row).own_val x (mut_slice_vals x)) ∷ []) ∵ updating ! $ move ! (1 ∷ []) $ fsplit ! $ drop ! $ fsplit ! $
        opens_slice ! tt X.row x.now x.ref_ptr.0 x.ref_ptr.1 $ at_once ! $ frame ! $ move ! (1 ∷ 2 ∷ 0 ∷ []) $ fjoin ! $ move ! (1 ∷ 0 ∷ []) $ fjoin ! $ done !

    closes_slice_of : (x : MutBor (List (Of X))) (zs : List (Of X)) → length zs ≡ length x.now → ⋆ 𝓛 (slice_items X κ q 𝓤 x zs) ⊢ H.⇛ (A.lft κ q ∗ ⟦ slice_left X κ x zs ⟧)
    closes_slice_of x zs e =
        qed 𝓛 (slice_items X κ q 𝓤 x zs) ∵ updating ! $ move ! (1 ∷ []) $ fsplit3 ! $ move ! (3 ∷ []) $ closes_slice ! tt X.row x.now zs e x.ref_ptr.0 x.ref_ptr.1 $
        -- [what the name observes; the borrow, at as many elements as zs has; the token]
        rewrite ! 1 (λ (n : ℕ). ‵ (fbor κ (Held X.row n x.ref_ptr.0 x.ref_ptr.1 x.ghost_name))) e refl $ name_done ! tt $ use1 𝓛 (‵ (finally X.row x.ghost_name zs)) (res-finally 𝓛 (named 0) κ X.row x.ghost_name zs) $
        at_once ! $ move ! (2 ∷ []) $ frame ! $ feq_i ! ℕ (length zs) (length x.now) e $ move ! (1 ∷ 0 ∷ []) $ fjoin ! $ done !

    opens_value_of : (x : MutBor (Of X)) → A.lft κ q ∗ ⟦ (MutRef (named 0) κ X.row).own_val x (mut_vals x) ⟧ ⊢ H.⇛ (⋆ 𝓛 (value_items X κ q 𝓤 x x.now))
    opens_value_of x =
        qed 𝓛 (‵ (flft κ q) ∷ ‵ ((MutRef (named 0) κ X.row).own_val x (mut_vals x)) ∷ []) ∵ updating ! $ move ! (1 ∷ []) $ fsplit ! $ drop ! $ fsplit ! $
        open_ref ! tt (mem X.row) {b = x.ref_ptr.0} {o = x.ref_ptr.1} $ at_once ! $ frame ! $ move ! (1 ∷ 2 ∷ 0 ∷ []) $ fjoin ! $ move ! (1 ∷ 0 ∷ []) $ fjoin ! $ done !

    closes_value_of : (x : MutBor (Of X)) (z : Of X) → ⋆ 𝓛 (value_items X κ q 𝓤 x z) ⊢ H.⇛ (A.lft κ q ∗ ⟦ value_left X κ x z ⟧)
    closes_value_of x z =
        qed 𝓛 (value_items X κ q 𝓤 x z) ∵ updating ! $ move ! (1 ∷ []) $ fsplit3 ! $ move ! (3 ∷ []) $ close_ref ! tt (mem X.row) z {b = x.ref_ptr.0} {o = x.ref_ptr.1} $
        name_done ! tt $ at_once ! $ move ! (2 ∷ []) $ done !

  -- ---- all of them, one after the other
  module _ (j : ℕ) (ps : List Param) (κs : Lfts (refs ps)) (qs : Shares (refs ps)) (a : Denots (rows j ps κs)) where
    abbrev AllOpen : Type 1
    AllOpen = toks 𝓛 (refs ps) κs qs ∗ ⟦ owned j ps κs a ⟧ ⊢ H.⇛ (⋆ 𝓛 (opened 𝓤 j ps κs qs a (firsts ps (passed j ps κs a))))

    abbrev AllClose : Type 1
    AllClose = (ws : Left ps) → Sized ps (passed j ps κs a) ws → ⋆ 𝓛 (opened 𝓤 j ps κs qs a ws) ⊢ H.⇛ (toks 𝓛 (refs ps) κs qs ∗ ⟦ lasts j ps κs a ws ⟧)

    -- one before them
    opened_before : (κ : Lft) (q : Share) (O : Fml) (Δ : List (Item 𝓤)) → A.lft κ q ∗ ⟦ O ⟧ ⊢ H.⇛ (⋆ 𝓛 Δ) → AllOpen
        → (A.lft κ q ∗ toks 𝓛 (refs ps) κs qs) ∗ ⟦ O ⟧ ∗ ⟦ owned j ps κs a ⟧ ⊢ H.⇛ (⋆ 𝓛 (Δ ++ opened 𝓤 j ps κs qs a (firsts ps (passed j ps κs a))))
    opened_before κ q O Δ h hs =
        qed 𝓛 ((‵ (flft κ q) ⊛ raw (toks 𝓛 (refs ps) κs qs)) ∷ ‵ O ∷ ‵ (owned j ps κs a) ∷ []) ∵ updating ! $ split ! $ move ! (0 ∷ 2 ∷ []) $ use2 𝓛 (later (raw (⋆ 𝓛 Δ))) h $ await ! tt $ move ! (1 ∷ 2 ∷ []) $
        use2 𝓛 (later (raw (⋆ 𝓛 (opened 𝓤 j ps κs qs a (firsts ps (passed j ps κs a)))))) hs $ await ! tt $ at_once ! $ move ! (1 ∷ 0 ∷ []) $ by ! (++⊢ 𝓛 Δ (opened 𝓤 j ps κs qs a (firsts ps (passed j ps κs a))))

    closed_before : (κ : Lft) (q : Share) (S : Fml) (Δ : List (Item 𝓤)) → ⋆ 𝓛 Δ ⊢ H.⇛ (A.lft κ q ∗ ⟦ S ⟧) → AllClose → (ws : Left ps) → Sized ps (passed j ps κs a) ws
        → ⋆ 𝓛 (Δ ++ opened 𝓤 j ps κs qs a ws) ⊢ H.⇛ ((A.lft κ q ∗ toks 𝓛 (refs ps) κs qs) ∗ ⟦ S ⟧ ∗ ⟦ lasts j ps κs a ws ⟧)
    closed_before κ q S Δ h hs ws k =
        via 𝓤 _ (⊢++ 𝓛 Δ (opened 𝓤 j ps κs qs a ws)) (qed 𝓛 (raw (⋆ 𝓛 Δ) ∷ raw (⋆ 𝓛 (opened 𝓤 j ps κs qs a ws)) ∷ []) ∵ updating ! $ use1 𝓛 (later (‵ (flft κ q) ⊛ ‵ S)) h $ await ! tt $ split ! $ move ! (2 ∷ []) $
        use1 𝓛 (later (raw (toks 𝓛 (refs ps) κs qs) ⊛ ‵ (lasts j ps κs a ws))) (hs ws k) $ await ! tt $ split ! $ at_once ! $ move ! (2 ∷ 0 ∷ []) $ join ! $ frame ! $ move ! (1 ∷ 0 ∷ []) $ done !)

  all_open : (j : ℕ) (ps : List Param) (κs : Lfts (refs ps)) (qs : Shares (refs ps)) (a : Denots (rows j ps κs)) → AllOpen j ps κs qs a
  all_open j [] κs qs a = qed 𝓛 (‵ ftrue ∷ ‵ ftrue ∷ []) ∵ updating ! $ at_once ! $ drop ! $ done !
  all_open j (plain X ∷ ps) κs qs a =
      qed 𝓛 (raw (toks 𝓛 (refs ps) κs qs) ∷ ‵ (owned j (plain X ∷ ps) κs a) ∷ []) ∵ updating ! $ move ! (1 ∷ []) $ fsplit ! $ drop ! $ move ! (1 ∷ 0 ∷ []) $
      use2 𝓛 (later (raw (⋆ 𝓛 (opened 𝓤 j ps κs qs a.1 (firsts ps (passed j ps κs a.1)))))) (all_open j ps κs qs a.1) $ await ! tt $ at_once ! $ done !
  all_open j (shared X ∷ ps) κs qs a =
      opened_before (suc j) ps κs.1 qs.1 a.1 κs.0 qs.0 ((ShrSlice (named 0) κs.0 X.row).own_val a.0 (shr_slice_vals a.0)) (shown_items X κs.0 qs.0 𝓤 a.0) (𝓛.laws.⇛_intro _) (all_open (suc j) ps κs.1 qs.1 a.1)
  all_open j (mutable X ∷ ps) κs qs a =
      opened_before (suc j) ps κs.1 qs.1 a.1 κs.0 qs.0 ((MutSlice (named 0) κs.0 X.row).own_val a.0 (mut_slice_vals a.0)) (slice_items X κs.0 qs.0 𝓤 a.0 a.0.now) (opens_slice_of X κs.0 qs.0 a.0) (all_open (suc j) ps κs.1 qs.1 a.1)
  all_open j (single X ∷ ps) κs qs a =
      opened_before (suc j) ps κs.1 qs.1 a.1 κs.0 qs.0 ((MutRef (named 0) κs.0 X.row).own_val a.0 (mut_vals a.0)) (value_items X κs.0 qs.0 𝓤 a.0 a.0.now) (opens_value_of X κs.0 qs.0 a.0) (all_open (suc j) ps κs.1 qs.1 a.1)

  all_close : (j : ℕ) (ps : List Param) (κs : Lfts (refs ps)) (qs : Shares (refs ps)) (a : Denots (rows j ps κs)) → AllClose j ps κs qs a
  all_close j [] κs qs a ws k = qed 𝓛 [] ∵ updating ! $ at_once ! $ nothing ! $ nothing ! $ done !
  all_close j (plain X ∷ ps) κs qs a ws k =
      qed 𝓛 (raw (⋆ 𝓛 (opened 𝓤 j ps κs qs a.1 ws.1)) ∷ []) ∵ updating ! $ use1 𝓛 (later (raw (toks 𝓛 (refs ps) κs qs) ⊛ ‵ (lasts j ps κs a.1 ws.1))) (all_close j ps κs qs a.1 ws.1 k.1) $ await ! tt $ split ! $ at_once ! $
      frame ! $ nothing ! $ done !
  all_close j (shared X ∷ ps) κs qs a ws k =
      closed_before (suc j) ps κs.1 qs.1 a.1 κs.0 qs.0 ftrue (shown_items X κs.0 qs.0 𝓤 a.0) (qed 𝓛 (shown_items X κs.0 qs.0 𝓤 a.0) ∵ updating ! $ at_once ! $ frame ! $ drop ! $ nothing ! $ done !) (all_close (suc j) ps κs.1 qs.1 a.1) ws.1 k.1
  all_close j (mutable X ∷ ps) κs qs a ws k =
      closed_before (suc j) ps κs.1 qs.1 a.1 κs.0 qs.0 (slice_left X κs.0 a.0 ws.0) (slice_items X κs.0 qs.0 𝓤 a.0 ws.0) (closes_slice_of X κs.0 qs.0 a.0 ws.0 k.0)
      (all_close (suc j) ps κs.1 qs.1 a.1) ws.1 k.1
  all_close j (single X ∷ ps) κs qs a ws k =
      closed_before (suc j) ps κs.1 qs.1 a.1 κs.0 qs.0 (value_left X κs.0 a.0 ws.0) (value_items X κs.0 qs.0 𝓤 a.0 ws.0) (closes_value_of X κs.0 qs.0 a.0 ws.0)
      (all_close (suc j) ps κs.1 qs.1 a.1) ws.1 k.1

-- ---- a function
module _ (c : Terms) (κs : Lfts (refs c.params)) where
  abbrev pub Arguments : Type 0
  Arguments = Denots (rows 0 c.params κs)

  abbrev pub Handed : Arguments → Type 0
  Handed a = Are (rows 0 c.params κs) (Ises (rows 0 c.params κs)) a (machine_values 0 c.params κs a)

  abbrev pub machine : Arguments → List Val
  machine a = flat (rows 0 c.params κs) (machine_values 0 c.params κs a)

module _ {M : Type 1} {𝓤 : Ura M} (𝓛 : Logic 𝓤) (c : Terms) (κs : Lfts (refs c.params)) (qs : Shares (refs c.params)) (a : Arguments c κs) where
  abbrev pub Entry : SProp 𝓤
  Entry = sep 𝓤 (toks 𝓛 (refs c.params) κs qs) (sem 𝓛 (owned 0 c.params κs a))

  abbrev pub Exit : Val → SProp 𝓤
  Exit = (triple 𝓛 c).post ((κs, qs, tt, a, machine_values 0 c.params κs a), tt)

  pub leaves : (r : Of c.result) (ws : Left c.params) → Fits c.result r → Sized c.params (passed 0 c.params κs a) ws → c.ensures (passed 0 c.params κs a) r ws → ent 𝓤 (⋆ 𝓛 (opened 𝓤 0 c.params κs qs a ws)) (Exit (c.result.val r))
  leaves r ws is k e =
      qed 𝓛 (raw (⋆ 𝓛 (opened 𝓤 0 c.params κs qs a ws)) ∷ []) ∵ updating ! $ use1 𝓛 (later (raw (toks 𝓛 (refs c.params) κs qs) ⊛ ‵ (lasts 0 c.params κs a ws))) (all_close 𝓛 0 c.params κs qs a ws k) $ await ! tt $ split ! $ at_once ! $
      show ! (Back 𝓛 c (κs, qs, tt, a, machine_values 0 c.params κs a) (c.result.val r)) r $ made ! c.result.row (Is c.result.row) (makes 𝓛 c.result) r _ is $ move ! (1 ∷ 0 ∷ []) $ join ! $ frame ! $
      show ! (λ (us : Left c.params). sep 𝓤 (sem 𝓛 (lasts 0 c.params κs a us)) (fact 𝓤 (c.ensures (passed 0 c.params κs a) r us))) ws $ says ! e $ done !

module _ {M : Type 1} {𝓤 : Ura M} {𝓛 : Logic 𝓤} {K : Type 0} {Γ : List (Item 𝓤)} {G : Goal 𝓤 𝓛.H} where
  pub opens : (c : Terms) (κs : Lfts (refs c.params)) (qs : Shares (refs c.params)) (a : Arguments c κs) → K → Soaks G → Step K 𝓛 (opened 𝓤 0 c.params κs qs a (firsts c.params (passed 0 c.params κs a)) ++ Γ) G (raw (Entry 𝓛 c κs qs a) ∷ Γ) G
  opens c κs qs a t z = step (λ s. use1 𝓛 (later (raw (⋆ 𝓛 (opened 𝓤 0 c.params κs qs a (firsts c.params (passed 0 c.params κs a)))))) (all_open 𝓛 0 c.params κs qs a) $ await t z $
      cut (raw (⋆ 𝓛 (opened 𝓤 0 c.params κs qs a (firsts c.params (passed 0 c.params κs a)))) ∷ []) (opened 𝓤 0 c.params κs qs a (firsts c.params (passed 0 c.params κs a))) Γ (id⊢ 𝓤 _) $ s)

module _ {M : Type 1} {𝓤 : Ura M} (𝓛 : Logic 𝓤) where
  -- what is required is learned
  learns : {Y : Type 0} (φ : Option (Y → Type 0)) (y : Y) (P : SProp 𝓤) {Q : SProp 𝓤} → (Asks φ y → ent 𝓤 P Q) → ent 𝓤 (sep 𝓤 P (asks 𝓤 φ y)) Q
  learns none y P h = via 𝓤 P (fst∗ 𝓤 P (emp 𝓤)) (h tt)
  learns (asking φ) y P h = needs 𝓤 (φ y) P h

  pub walked : (c : Terms) (run : Fun 𝓤)
      → ((κs : Lfts (refs c.params)) (qs : Shares (refs c.params)) (a : Arguments c κs) → Handed c κs a → Asks c.requires (passed 0 c.params κs a) → ent 𝓤 (Entry 𝓛 c κs qs a) (run (machine c κs a) (Exit 𝓛 c κs qs a)))
      → Triple 𝓤 run (triple 𝓛 c)
  walked c run k y =
      learns c.requires (passed 0 ps κs a) (sep 𝓤 (toks 𝓛 (refs ps) κs qs) (sem 𝓛 (owns Rs a y.0.4))) (λ req.
      fact_use 𝓤 (Are Rs (Ises Rs) a y.0.4) (via 𝓤 _ (snd∗ 𝓤 (toks 𝓛 (refs ps) κs qs) (sem 𝓛 (owns Rs a y.0.4))) (owns_show 𝓛 Rs (Ises Rs) (showss 𝓛 Rs) a y.0.4)) (λ g.
      subst (λ (us : Valss Rs). ent 𝓤 (sep 𝓤 (toks 𝓛 (refs ps) κs qs) (sem 𝓛 (owns Rs a us))) (run (flat Rs us) ((triple 𝓛 c).post ((κs, qs, tt, a, us), tt)))) (sym (same g)) (k κs qs a (subst (Are Rs (Ises Rs) a) (same g) g) req)))
    where
      ps : List Param
      ps = c.params

      κs : Lfts (refs ps)
      κs = y.0.0

      qs : Shares (refs ps)
      qs = y.0.1

      Rs : List RattleType
      Rs = rows 0 ps κs

      a : Denots Rs
      a = y.0.3

      same : Are Rs (Ises Rs) a y.0.4 → y.0.4 ≡ machine_values 0 ps κs a
      same g = all_tell Rs (Ises Rs) (spells 0 ps κs) (tell 0 ps κs) a y.0.4 g
