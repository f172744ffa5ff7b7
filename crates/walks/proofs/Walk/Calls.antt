-- A call as one step of a walk, over any rest Γ of the context, for every function whose parameters are plain data, by value or lent (`Terms`).
--     Arg              how the caller hands an argument over. A value. A `&[T]` that it holds, of which the callee is handed a copy (`held`), or what it owns, lent as `&` for the call (`owned`). What it owns, lent as `&mut` for the call: elements, or one value
--     before, after    what stands in the caller's context for the arguments: before the call, and after it, where what was lent stands at its last value
--     calls            the call. The walk shows what the callee requires and how the operands are read in Γ, and goes on with what the callee ensures
-- Lending makes a lifetime for each argument, and the call's return ends it. `lends` and `returns` say so for one argument after the other.
-- Assumes `Logic`, and that the table of calls is monotone under a frame.
use mathlib.Core.Path.{◌≡◌, refl, sym, ap, subst}
use mathlib.Core.Option.{Option, none, some as asking}
use Prim.Native.Nat.{ℕ, zero, suc}
use mathlib.Core.List.{List, [], ◌∷◌, ◌++◌}
use lib.ListN.{length}
use seplogic.Ra.Ura.{Ura}
use base.Fraction.{full_share}
use mir.Syntax.{Opd as Operand, Callee, Place, Body, named, seq, call}
use mir.Val.{Val, vptr}
use base.Logic.{SProp, ent, sep, wand, ex, guard, emp, id⊢, via, comm∗, mono_l, wand_i, apply∗}
use base.Fml.{Lft, GName, Share, Fml, ftrue, fsep, flft, flent, fhide}
use prog.Wp.{Env, Calls, Loops, eval_opds}
use types.Logic.{Logic, sem}
use contract.Monad.{fact, fact_i}
use contract.Lifetimes.{Lfts, Shares, toks}
use types.Kit.{Item, Seq, Post, runs, lands, mean, ⋆, pop, push, ++⊢, ⊢++, ‵, raw, some, given, later, ◌⊛◌, ◌$◌, ◌∵◌, !, qed, by, cut, move, drop, use0, use1, use3, split, split3, join, pick, learn, fsplit, fjoin, feq_l, show, check, frame, await, updating, now as at_once, done}
use types.Run.{Opds}
use types.SemTy.{cells, Arr, Body as Borrowed}
use types.Tokens.{lft_new, lft_end, lent_back}
use sound.WpLaws.{FmC, eval_opds_fm}
use denote.RattleType.{Denots, flat, owns}
use denote.Laws.{Is, shows}
use denote.Memory.{mem, part_at}
use denote.Ref.{Bor, MutBor, MutRef}
use denote.Slice.{slice_val, shr_slice_vals, shr_slice_at, ShrSlice, MutSlice, Room, elements_shared}
use denote.Lend.{Held, lends_slice, lends_ref, slice_back, ref_back}
use denote.Copied.{each_lends}
use denote.Shadow.{pure_i}
use denote.Index.{row as records, whole_in, whole_out}
use denote.Steps.{nothing, owned as made, peeks, heard, only}
use denote.Triple.Statement.{Triple}
use denote.Triple.Call.{calls_at}
use Rattle.walks.proofs.Walk.Values.{Value, Of, Fits, makes, shown_twice}
use Rattle.walks.proofs.Walk.Terms.{Param, plain, shared, mutable, single, Passed, Left, Sized, Terms, Asks, refs, rows, machine_values, passed, slice_left, value_left, lasts, asks, triple}

-- ---- the arguments
pub data Shown (X : Value) : Type 0 where
  held : Bor (List (Of X)) → Lft → Share → Shown X
  owned : (ys : List (Of X)) → ℕ × ℕ → Room X.row (length ys) → Shown X

abbrev pub Arg : Param → Type 0
Arg (plain X) = (x : Of X) × Fits X x
Arg (shared X) = Shown X
Arg (mutable X) = (ys : List (Of X)) × (p : ℕ × ℕ) × Room X.row (length ys)
Arg (single X) = Of X × (ℕ × ℕ)

abbrev pub Args : List Param → Type 0
Args [] = Unit {0}
Args (p ∷ ps) = Arg p × Args ps

module _ (X : Value) where
  abbrev pub elements : Shown X → List (Of X)
  elements (held x κ q) = x.now
  elements (owned ys p room) = ys

  abbrev pub place_of : Shown X → ℕ × ℕ
  place_of (held x κ q) = x.ref_ptr
  place_of (owned ys p room) = p

  -- the lifetime and its share: the caller's, or those that are made for the call
  abbrev pub lft_of : Shown X → ℕ × GName → Lft
  lft_of (held x κ q) n = κ
  lft_of (owned ys p room) n = n.0 ∷ []

  abbrev pub share_of : Shown X → Share
  share_of (held x κ q) = q
  share_of (owned ys p room) = full_share

  -- the reference: a `&[T]` has no name, and a `&mut [T]` has one
  abbrev pub shown_at : Shown X → Bor (List (Of X))
  shown_at x = record { ref_ptr = place_of x; now = elements x }

  abbrev pub slice_at : ℕ × ℕ → GName → List (Of X) → MutBor (List (Of X))
  slice_at p γ ys = record { ref_ptr = p; ghost_name = γ; now = ys }

  abbrev pub value_at : ℕ × ℕ → GName → Of X → MutBor (Of X)
  value_at p γ x = record { ref_ptr = p; ghost_name = γ; now = x }

-- the values passed, and their machine values
abbrev pub values : (ps : List Param) → Args ps → Passed ps
values [] s = tt
values (plain X ∷ ps) s = (s.0.0, values ps s.1)
values (shared X ∷ ps) s = (elements X s.0, values ps s.1)
values (mutable X ∷ ps) s = (s.0.0, values ps s.1)
values (single X ∷ ps) s = (s.0.0, values ps s.1)

abbrev pub machine : (ps : List Param) → Args ps → List Val
machine [] s = []
machine (plain X ∷ ps) s = X.val s.0.0 ∷ machine ps s.1
machine (shared X ∷ ps) s = slice_val (place_of X s.0) (length (elements X s.0)) ∷ machine ps s.1
machine (mutable X ∷ ps) s = slice_val s.0.1 (length s.0.0) ∷ machine ps s.1
machine (single X ∷ ps) s = vptr s.0.1.0 s.0.1.1 ∷ machine ps s.1

-- ---- what the callee is handed: for each reference a lifetime and a name. A `&[T]` has no name, and there it says nothing
abbrev Names : List Param → Type 0
Names [] = Unit {0}
Names (plain X ∷ ps) = Names ps
Names (shared X ∷ ps) = (ℕ × GName) × Names ps
Names (mutable X ∷ ps) = (ℕ × GName) × Names ps
Names (single X ∷ ps) = (ℕ × GName) × Names ps

abbrev lfts : (ps : List Param) → Args ps → Names ps → Lfts (refs ps)
lfts [] s ns = tt
lfts (plain X ∷ ps) s ns = lfts ps s.1 ns
lfts (shared X ∷ ps) s ns = (lft_of X s.0 ns.0, lfts ps s.1 ns.1)
lfts (mutable X ∷ ps) s ns = (ns.0.0 ∷ [], lfts ps s.1 ns.1)
lfts (single X ∷ ps) s ns = (ns.0.0 ∷ [], lfts ps s.1 ns.1)

abbrev shares : (ps : List Param) → Args ps → Shares (refs ps)
shares [] s = tt
shares (plain X ∷ ps) s = shares ps s.1
shares (shared X ∷ ps) s = (share_of X s.0, shares ps s.1)
shares (mutable X ∷ ps) s = (full_share, shares ps s.1)
shares (single X ∷ ps) s = (full_share, shares ps s.1)

abbrev denots : (j : ℕ) (ps : List Param) (s : Args ps) (ns : Names ps) → Denots (rows j ps (lfts ps s ns))
denots j [] s ns = tt
denots j (plain X ∷ ps) s ns = (s.0.0, denots j ps s.1 ns)
denots j (shared X ∷ ps) s ns = (shown_at X s.0, denots (suc j) ps s.1 ns.1)
denots j (mutable X ∷ ps) s ns = (slice_at X s.0.1 ns.0.1 s.0.0, denots (suc j) ps s.1 ns.1)
denots j (single X ∷ ps) s ns = (value_at X s.0.1 ns.0.1 s.0.0, denots (suc j) ps s.1 ns.1)

flat_is : (j : ℕ) (ps : List Param) (s : Args ps) (ns : Names ps) → machine ps s ≡ flat (rows j ps (lfts ps s ns)) (machine_values j ps (lfts ps s ns) (denots j ps s ns))
flat_is j [] s ns = refl
flat_is j (plain X ∷ ps) s ns = ap (λ (us : List Val). X.val s.0.0 ∷ us) (flat_is j ps s.1 ns)
flat_is j (shared X ∷ ps) s ns = ap (λ (us : List Val). slice_val (place_of X s.0) (length (elements X s.0)) ∷ us) (flat_is (suc j) ps s.1 ns.1)
flat_is j (mutable X ∷ ps) s ns = ap (λ (us : List Val). slice_val s.0.1 (length s.0.0) ∷ us) (flat_is (suc j) ps s.1 ns.1)
flat_is j (single X ∷ ps) s ns = ap (λ (us : List Val). vptr s.0.1.0 s.0.1.1 ∷ us) (flat_is (suc j) ps s.1 ns.1)

passed_is : (j : ℕ) (ps : List Param) (s : Args ps) (ns : Names ps) → values ps s ≡ passed j ps (lfts ps s ns) (denots j ps s ns)
passed_is j [] s ns = refl
passed_is j (plain X ∷ ps) s ns = λ i. (s.0.0, passed_is j ps s.1 ns i)
passed_is j (shared X ∷ ps) s ns = λ i. (elements X s.0, passed_is (suc j) ps s.1 ns.1 i)
passed_is j (mutable X ∷ ps) s ns = λ i. (s.0.0, passed_is (suc j) ps s.1 ns.1 i)
passed_is j (single X ∷ ps) s ns = λ i. (s.0.0, passed_is (suc j) ps s.1 ns.1 i)

-- ---- what the caller has, what the callee is handed, and what the caller keeps while the call runs: of a `&[T]`, of a `&mut [T]` and of a `&mut T`
abbrev Name² : Type 0
Name² = ℕ × GName

module _ (X : Value) where
  abbrev shown_own : Shown X → Name² → Fml
  shown_own x n = (ShrSlice (named 0) (lft_of X x n) X.row).own_val (shown_at X x) (shr_slice_vals (shown_at X x))

  abbrev shown_kept : Shown X → Name² → Fml
  shown_kept (held x κ q) n = shown_own (held x κ q) n
  shown_kept (owned ys p room) n = flent (n.0 ∷ []) (records X.row full_share ys p.0 p.1)

  abbrev slice_own : Arg (mutable X) → Name² → Fml
  slice_own x n = (MutSlice (named 0) (n.0 ∷ []) X.row).own_val (slice_at X x.1 n.1 x.0) (slice_val x.1 (length x.0) ∷ [])

  abbrev slice_kept : Arg (mutable X) → Name² → Fml
  slice_kept x n = flent (n.0 ∷ []) (Held X.row (length x.0) x.1.0 x.1.1 n.1)

  abbrev slice_last : Arg (mutable X) → Name² → List (Of X) → Fml
  slice_last x n zs = slice_left X (n.0 ∷ []) (slice_at X x.1 n.1 x.0) zs

  abbrev value_own : Arg (single X) → Name² → Fml
  value_own x n = (MutRef (named 0) (n.0 ∷ []) X.row).own_val (value_at X x.1 n.1 x.0) (vptr x.1.0 x.1.1 ∷ [])

  abbrev value_kept : Arg (single X) → Name² → Fml
  value_kept x n = flent (n.0 ∷ []) (Borrowed (mem X.row) x.1.0 x.1.1 n.1)

  abbrev value_last : Arg (single X) → Name² → Of X → Fml
  value_last x n z = value_left X (n.0 ∷ []) (value_at X x.1 n.1 x.0) z

  module _ {M : Type 1} (𝓤 : Ura M) where
    abbrev pub shown_item : Shown X → List (Item 𝓤)
    shown_item (held x κ q) = ‵ (flft κ q) ∷ ‵ (shown_own (held x κ q) (zero, zero)) ∷ []
    shown_item (owned ys p room) = ‵ (records X.row full_share ys p.0 p.1) ∷ []

    abbrev pub slice_item : Arg (mutable X) → List (Of X) → List (Item 𝓤)
    slice_item x zs = ‵ (records X.row full_share zs x.1.0 x.1.1) ∷ []

    abbrev pub value_item : Arg (single X) → Of X → List (Item 𝓤)
    value_item x z = ‵ (part_at X.row full_share z x.1.0 x.1.1) ∷ []

abbrev kept : (ps : List Param) → Args ps → Names ps → Fml
kept [] s ns = ftrue
kept (plain X ∷ ps) s ns = kept ps s.1 ns
kept (shared X ∷ ps) s ns = fsep (shown_kept X s.0 ns.0) (kept ps s.1 ns.1)
kept (mutable X ∷ ps) s ns = fsep (slice_kept X s.0 ns.0) (kept ps s.1 ns.1)
kept (single X ∷ ps) s ns = fsep (value_kept X s.0 ns.0) (kept ps s.1 ns.1)

module _ {M : Type 1} (𝓤 : Ura M) where
  abbrev pub before : (ps : List Param) → Args ps → List (Item 𝓤)
  before [] s = []
  before (plain X ∷ ps) s = before ps s.1
  before (shared X ∷ ps) s = shown_item X 𝓤 s.0 ++ before ps s.1
  before (mutable X ∷ ps) s = slice_item X 𝓤 s.0 s.0.0 ++ before ps s.1
  before (single X ∷ ps) s = value_item X 𝓤 s.0 s.0.0 ++ before ps s.1

  abbrev pub after : (ps : List Param) → Args ps → Left ps → List (Item 𝓤)
  after [] s ws = []
  after (plain X ∷ ps) s ws = after ps s.1 ws.1
  after (shared X ∷ ps) s ws = shown_item X 𝓤 s.0 ++ after ps s.1 ws.1
  after (mutable X ∷ ps) s ws = slice_item X 𝓤 s.0 ws.0 ++ after ps s.1 ws.1
  after (single X ∷ ps) s ws = value_item X 𝓤 s.0 ws.0 ++ after ps s.1 ws.1

module _ {M : Type 1} {𝓤 : Ura M} (𝓛 : Logic 𝓤) where
  open 𝓛 use {H, A}

  abbrev ◌⊢◌ : SProp 𝓤 → SProp 𝓤 → Type 1
  P ⊢ Q = ent 𝓤 P Q

  abbrev ◌∗◌ : SProp 𝓤 → SProp 𝓤 → SProp 𝓤
  P ∗ Q = sep 𝓤 P Q

  abbrev ⟦◌⟧ : Fml → SProp 𝓤
  ⟦ P ⟧ = sem 𝓛 P

  infix 26 ◌⊢◌
  infixr 35 ◌∗◌
  -- ---- one argument. What is had of it, Δ, is lent for a lifetime κ under a name: the callee has O, and the caller keeps K. And it comes back once the callee has said S of its last value
  abbrev Lending : List (Item 𝓤) → (Name² → Lft) → Share → (Name² → Fml) → (Name² → Fml) → Name² → SProp 𝓤
  Lending Δ κ q O K n = A.lft (κ n) q ∗ ⟦ O n ⟧ ∗ ⟦ K n ⟧

  abbrev Lends : List (Item 𝓤) → (Name² → Lft) → Share → (Name² → Fml) → (Name² → Fml) → Type 1
  Lends Δ κ q O K = ⋆ 𝓛 Δ ⊢ H.⇛ (ex 𝓤 (Lending Δ κ q O K))

  abbrev Returns : List (Item 𝓤) → Lft → Share → Fml → Fml → Type 0 → Type 1
  Returns Δ κ q S K φ = A.lft κ q ∗ ⟦ S ⟧ ∗ ⟦ K ⟧ ⊢ H.⇛ (guard 𝓤 φ (⋆ 𝓛 Δ))

  module _ (X : Value) where
    shows_slice : (x : Shown X) → Lends (shown_item X 𝓤 x) (lft_of X x) (share_of X x) (shown_own X x) (shown_kept X x)
    shows_slice (held r κ q) =
        let x : Shown X = held r κ q in
        qed 𝓛 (shown_item X 𝓤 x) ∵ updating ! $ at_once ! $ show ! (Lending (shown_item X 𝓤 x) (lft_of X x) (share_of X x) (shown_own X x) (shown_kept X x)) (zero, zero) $ frame ! $
        use1 𝓛 (‵ (shown_own X x (zero, zero)) ⊛ ‵ (shown_own X x (zero, zero))) (shown_twice 𝓛 X κ (shown_at X x)) $ done !
    shows_slice (owned ys p room) =
        let x : Shown X = owned ys p room in
        qed 𝓛 (shown_item X 𝓤 x) ∵ updating ! $ lft_new ! tt (λ ν. move ! (1 ∷ []) $
        use1 𝓛 (later (‵ (fhide (elements_shared X.row ys p.0 p.1 (ν ∷ []))) ⊛ ‵ (shown_kept X x (ν, zero)))) (each_lends 𝓛 X.row (X.copied 𝓛) full_share ys p.0 p.1 (ν ∷ [])) $ await ! tt $ split ! $ at_once ! $
        show ! (Lending (shown_item X 𝓤 x) (lft_of X x) (share_of X x) (shown_own X x) (shown_kept X x)) (ν, zero) $ move ! (2 ∷ []) $ frame ! $
        pure_i ! (shr_slice_at X.row (shown_at X x) (shr_slice_vals (shown_at X x))) (tt, (tt, tt)) (refl, room) $ fjoin ! $ done !)

    shown_returns : (x : Shown X) (n : Name²) → Returns (shown_item X 𝓤 x) (lft_of X x n) (share_of X x) ftrue (shown_kept X x n) (Unit {0})
    shown_returns (held x κ q) n = qed 𝓛 (‵ (flft κ q) ∷ ‵ ftrue ∷ ‵ (shown_kept X (held x κ q) n) ∷ []) ∵ updating ! $ at_once ! $ check ! tt $ frame ! $ drop ! $ done !
    shown_returns (owned ys p room) n =
        qed 𝓛 (‵ (flft (n.0 ∷ []) full_share) ∷ ‵ ftrue ∷ ‵ (shown_kept X (owned ys p room) n) ∷ []) ∵ updating ! $ lft_end ! tt $ move ! (0 ∷ 2 ∷ []) $ lent_back ! tt $ move ! (1 ∷ []) $ drop ! $ at_once ! $ check ! tt $ done !

    lends_all : (x : Arg (mutable X)) → Lends (slice_item X 𝓤 x x.0) (λ n. n.0 ∷ []) full_share (slice_own X x) (slice_kept X x)
    lends_all x =
        qed 𝓛 (slice_item X 𝓤 x x.0) ∵ updating ! $ use1 𝓛 (‵ (cells (mem X.row) x.0 x.1.0 x.1.1)) (whole_in 𝓛 X.row x.0 x.1.0 x.1.1) $ lft_new ! tt (λ ν. move ! (1 ∷ []) $
        use1 𝓛 (later (some (λ (δ : GName). ‵ (slice_own X x (ν, δ)) ⊛ ‵ (slice_kept X x (ν, δ))))) (lends_slice 𝓛 X.row (named 0) (ν ∷ []) x.0 x.1.0 x.1.1 x.2) $ await ! tt $ pick ! (λ δ. at_once ! $
        show ! (Lending (slice_item X 𝓤 x x.0) (λ n. n.0 ∷ []) full_share (slice_own X x) (slice_kept X x)) (ν, δ) $ move ! (1 ∷ 0 ∷ []) $ done !))

    all_return : (x : Arg (mutable X)) (n : Name²) (zs : List (Of X)) → Returns (slice_item X 𝓤 x zs) (n.0 ∷ []) full_share (slice_last X x n zs) (slice_kept X x n) (length zs ≡ length x.0)
    all_return x n zs =
        qed 𝓛 (‵ (flft (n.0 ∷ []) full_share) ∷ ‵ (slice_last X x n zs) ∷ ‵ (slice_kept X x n) ∷ []) ∵ updating ! $ lft_end ! tt $ move ! (1 ∷ []) $ fsplit ! $ move ! (1 ∷ []) $ drop ! $ fsplit ! $ move ! (1 ∷ []) $ feq_l ! (λ e. move ! (1 ∷ 2 ∷ 0 ∷ []) $
        use3 𝓛 (later (‵ ((Arr (mem X.row) (length x.0)).own_at zs x.1.0 x.1.1))) (slice_back 𝓛 X.row (n.0 ∷ []) n.1 zs (length x.0) x.1.0 x.1.1) $ await ! tt $ fsplit ! $ drop ! $
        use1 𝓛 (‵ (records X.row full_share zs x.1.0 x.1.1)) (whole_out 𝓛 X.row zs x.1.0 x.1.1) $ at_once ! $ check ! e $ done !)

    lends_value : (x : Arg (single X)) → Lends (value_item X 𝓤 x x.0) (λ n. n.0 ∷ []) full_share (value_own X x) (value_kept X x)
    lends_value x =
        qed 𝓛 (value_item X 𝓤 x x.0) ∵ updating ! $ lft_new ! tt (λ ν. move ! (1 ∷ []) $
        use1 𝓛 (later (some (λ (δ : GName). ‵ (value_own X x (ν, δ)) ⊛ ‵ (value_kept X x (ν, δ))))) (lends_ref 𝓛 X.row (named 0) (ν ∷ []) x.0 x.1.0 x.1.1) $ await ! tt $ pick ! (λ δ. at_once ! $
        show ! (Lending (value_item X 𝓤 x x.0) (λ n. n.0 ∷ []) full_share (value_own X x) (value_kept X x)) (ν, δ) $ move ! (1 ∷ 0 ∷ []) $ done !))

    value_returns : (x : Arg (single X)) (n : Name²) (z : Of X) → Returns (value_item X 𝓤 x z) (n.0 ∷ []) full_share (value_last X x n z) (value_kept X x n) (Unit {0})
    value_returns x n z =
        qed 𝓛 (‵ (flft (n.0 ∷ []) full_share) ∷ ‵ (value_last X x n z) ∷ ‵ (value_kept X x n) ∷ []) ∵ updating ! $ lft_end ! tt $ move ! (1 ∷ []) $ fsplit ! $ move ! (1 ∷ []) $ drop ! $ move ! (1 ∷ 2 ∷ 0 ∷ []) $
        use3 𝓛 (later (‵ (part_at X.row full_share z x.1.0 x.1.1))) (ref_back 𝓛 X.row (n.0 ∷ []) n.1 z x.1.0 x.1.1) $ await ! tt $ at_once ! $ check ! tt $ done !

  -- ---- all of them, one after the other
  module _ (j : ℕ) (ps : List Param) (s : Args ps) where
    abbrev Toks : Names ps → SProp 𝓤
    Toks ns = toks 𝓛 (refs ps) (lfts ps s ns) (shares ps s)

    abbrev Owns : Names ps → Fml
    Owns ns = owns (rows j ps (lfts ps s ns)) (denots j ps s ns) (machine_values j ps (lfts ps s ns) (denots j ps s ns))

    abbrev Lasts : Names ps → Left ps → Fml
    Lasts ns ws = lasts j ps (lfts ps s ns) (denots j ps s ns) ws

    abbrev Lent : Names ps → SProp 𝓤
    Lent ns = Toks ns ∗ ⟦ Owns ns ⟧ ∗ ⟦ kept ps s ns ⟧

    abbrev AllLend : Type 1
    AllLend = ⋆ 𝓛 (before 𝓤 ps s) ⊢ H.⇛ (ex 𝓤 Lent)

    abbrev AllReturn : Type 1
    AllReturn = (ns : Names ps) (ws : Left ps) → Toks ns ∗ ⟦ Lasts ns ws ⟧ ∗ ⟦ kept ps s ns ⟧ ⊢ H.⇛ (guard 𝓤 (Sized ps (values ps s) ws) (⋆ 𝓛 (after 𝓤 ps s ws)))

    -- one before them
    lent_before : (Δ : List (Item 𝓤)) (κ : Name² → Lft) (q : Share) (O K : Name² → Fml) → Lends Δ κ q O K → AllLend
        → ⋆ 𝓛 (Δ ++ before 𝓤 ps s) ⊢ H.⇛ (ex 𝓤 (λ (m : Name² × Names ps). (A.lft (κ m.0) q ∗ Toks m.1) ∗ (⟦ O m.0 ⟧ ∗ ⟦ Owns m.1 ⟧) ∗ ⟦ K m.0 ⟧ ∗ ⟦ kept ps s m.1 ⟧))
    lent_before Δ κ q O K h hs =
        via 𝓤 _ (⊢++ 𝓛 Δ (before 𝓤 ps s)) (qed 𝓛 (raw (⋆ 𝓛 Δ) ∷ raw (⋆ 𝓛 (before 𝓤 ps s)) ∷ []) ∵ updating ! $ use1 𝓛 (later (some (λ (n : Name²). ‵ (flft (κ n) q) ⊛ ‵ (O n) ⊛ ‵ (K n)))) h $ await ! tt $ pick ! (λ n. split3 ! $ move ! (3 ∷ []) $
        use1 𝓛 (later (some (λ (ns : Names ps). raw (Toks ns) ⊛ ‵ (Owns ns) ⊛ ‵ (kept ps s ns)))) hs $ await ! tt $ pick ! (λ ns. split3 ! $ at_once ! $
        show ! (λ (m : Name² × Names ps). (A.lft (κ m.0) q ∗ Toks m.1) ∗ (⟦ O m.0 ⟧ ∗ ⟦ Owns m.1 ⟧) ∗ ⟦ K m.0 ⟧ ∗ ⟦ kept ps s m.1 ⟧) (n, ns) $
        move ! (3 ∷ 0 ∷ []) $ join ! $ frame ! $ move ! (2 ∷ 0 ∷ []) $ join ! $ frame ! $ move ! (1 ∷ 0 ∷ []) $ done !)))

    returned_before : (Δ : List (Item 𝓤)) (κ : Lft) (q : Share) (S K : Fml) (φ : Type 0) → Returns Δ κ q S K φ → AllReturn → (ns : Names ps) (ws : Left ps)
        → (A.lft κ q ∗ Toks ns) ∗ (⟦ S ⟧ ∗ ⟦ Lasts ns ws ⟧) ∗ ⟦ K ⟧ ∗ ⟦ kept ps s ns ⟧ ⊢ H.⇛ (guard 𝓤 (φ × Sized ps (values ps s) ws) (⋆ 𝓛 (Δ ++ after 𝓤 ps s ws)))
    returned_before Δ κ q S K φ h hs ns ws =
        qed 𝓛 ((‵ (flft κ q) ⊛ raw (Toks ns)) ∷ (‵ S ⊛ ‵ (Lasts ns ws)) ∷ ‵ K ∷ ‵ (kept ps s ns) ∷ []) ∵ updating ! $ split ! $ move ! (2 ∷ []) $ split ! $ move ! (2 ∷ 0 ∷ 4 ∷ []) $
        use3 𝓛 (later (given φ (raw (⋆ 𝓛 Δ)))) h $ await ! tt $ learn ! (λ p. move ! (2 ∷ 1 ∷ 3 ∷ []) $
        use3 𝓛 (later (given (Sized ps (values ps s) ws) (raw (⋆ 𝓛 (after 𝓤 ps s ws))))) (hs ns ws) $ await ! tt $ learn ! (λ ps'. at_once ! $ check ! (p, ps') $ move ! (1 ∷ 0 ∷ []) $ by ! (++⊢ 𝓛 Δ (after 𝓤 ps s ws))))

  lends : (j : ℕ) (ps : List Param) (s : Args ps) → AllLend j ps s
  lends j [] s = qed 𝓛 [] ∵ updating ! $ at_once ! $ show ! (Lent j [] s) tt $ nothing ! $ nothing ! $ nothing ! $ done !
  lends j (plain X ∷ ps) s =
      qed 𝓛 (raw (⋆ 𝓛 (before 𝓤 ps s.1)) ∷ []) ∵ updating ! $ use1 𝓛 (later (some (λ (ns : Names ps). raw (Toks j ps s.1 ns) ⊛ ‵ (Owns j ps s.1 ns) ⊛ ‵ (kept ps s.1 ns)))) (lends j ps s.1) $ await ! tt $ pick ! (λ ns. split3 ! $ at_once ! $
      show ! (Lent j (plain X ∷ ps) s) ns $ frame ! $ made ! X.row (Is X.row) (makes 𝓛 X) s.0.0 _ s.0.1 $ fjoin ! $ done !)
  lends j (shared X ∷ ps) s = lent_before (suc j) ps s.1 (shown_item X 𝓤 s.0) (lft_of X s.0) (share_of X s.0) (shown_own X s.0) (shown_kept X s.0) (shows_slice X s.0) (lends (suc j) ps s.1)
  lends j (mutable X ∷ ps) s = lent_before (suc j) ps s.1 (slice_item X 𝓤 s.0 s.0.0) (λ n. n.0 ∷ []) full_share (slice_own X s.0) (slice_kept X s.0) (lends_all X s.0) (lends (suc j) ps s.1)
  lends j (single X ∷ ps) s = lent_before (suc j) ps s.1 (value_item X 𝓤 s.0 s.0.0) (λ n. n.0 ∷ []) full_share (value_own X s.0) (value_kept X s.0) (lends_value X s.0) (lends (suc j) ps s.1)

  returns : (j : ℕ) (ps : List Param) (s : Args ps) → AllReturn j ps s
  returns j [] s ns ws = qed 𝓛 (‵ ftrue ∷ ‵ ftrue ∷ ‵ ftrue ∷ []) ∵ updating ! $ at_once ! $ check ! tt $ drop ! $ drop ! $ done !
  returns j (plain X ∷ ps) s ns ws =
      qed 𝓛 (raw (Toks j ps s.1 ns) ∷ ‵ (fsep ftrue (Lasts j ps s.1 ns ws.1)) ∷ ‵ (kept ps s.1 ns) ∷ []) ∵ updating ! $ move ! (1 ∷ []) $ fsplit ! $ drop ! $ move ! (1 ∷ 0 ∷ 2 ∷ []) $
      use3 𝓛 (later (given (Sized ps (values ps s.1) ws.1) (raw (⋆ 𝓛 (after 𝓤 ps s.1 ws.1))))) (returns j ps s.1 ns ws.1) $ await ! tt $ learn ! (λ p. at_once ! $ check ! (tt, p) $ done !)
  returns j (shared X ∷ ps) s ns ws =
      returned_before (suc j) ps s.1 (shown_item X 𝓤 s.0) (lft_of X s.0 ns.0) (share_of X s.0) ftrue (shown_kept X s.0 ns.0) (Unit {0}) (shown_returns X s.0 ns.0) (returns (suc j) ps s.1) ns.1 ws.1
  returns j (mutable X ∷ ps) s ns ws =
      returned_before (suc j) ps s.1 (slice_item X 𝓤 s.0 ws.0) (ns.0.0 ∷ []) full_share (slice_last X s.0 ns.0 ws.0) (slice_kept X s.0 ns.0) (length ws.0 ≡ length s.0.0) (all_return X s.0 ns.0 ws.0) (returns (suc j) ps s.1) ns.1 ws.1
  returns j (single X ∷ ps) s ns ws =
      returned_before (suc j) ps s.1 (value_item X 𝓤 s.0 ws.0) (ns.0.0 ∷ []) full_share (value_last X s.0 ns.0 ws.0) (value_kept X s.0 ns.0) (Unit {0}) (value_returns X s.0 ns.0 ws.0) (returns (suc j) ps s.1) ns.1 ws.1

  -- what is required holds of nothing
  asked : {Y : Type 0} (φ : Option (Y → Type 0)) (y : Y) → Asks φ y → emp 𝓤 ⊢ asks 𝓤 φ y
  asked none y p = id⊢ 𝓤 (emp 𝓤)
  asked (asking φ) y p = fact_i 𝓤 (φ y) (emp 𝓤) p

-- ---- the call
module _ {M : Type 1} {𝓤 : Ura M} {𝓛 : Logic 𝓤} {K : Type 0} {Γ : List (Item 𝓤)} {E : Env 𝓤 𝓛.H} {xs : List Operand} where
  -- operands that are read in Γ are read where more stands before it
  open 𝓛 use {H}

  beside : {vs : List Val} (i : Item 𝓤) → Opds K 𝓛 Γ E xs vs → Opds K 𝓛 (i ∷ Γ) E xs vs
  beside {vs} i os = record {
    go = λ Kt h. via 𝓤 (sep 𝓤 (eval_opds 𝓤 H E xs (λ us. wand 𝓤 (mean 𝓛 i) (Kt us))) (mean 𝓛 i))
        (via 𝓤 (sep 𝓤 (⋆ 𝓛 Γ) (mean 𝓛 i)) (via 𝓤 (sep 𝓤 (mean 𝓛 i) (⋆ 𝓛 Γ)) (pop 𝓛 i Γ) (comm∗ 𝓤 (mean 𝓛 i) (⋆ 𝓛 Γ)))
        (mono_l 𝓤 (mean 𝓛 i) (os.go (λ us. wand 𝓤 (mean 𝓛 i) (Kt us))
        (wand_i 𝓤 (⋆ 𝓛 Γ) (mean 𝓛 i) (Kt vs) (via 𝓤 (sep 𝓤 (mean 𝓛 i) (⋆ 𝓛 Γ)) (comm∗ 𝓤 (⋆ 𝓛 Γ) (mean 𝓛 i)) (via 𝓤 (⋆ 𝓛 (i ∷ Γ)) (push 𝓛 i Γ) h))))))
        (eval_opds_fm 𝓤 H 𝓛.laws E xs (λ us. wand 𝓤 (mean 𝓛 i) (Kt us)) Kt (mean 𝓛 i)
        (λ us. via 𝓤 (sep 𝓤 (mean 𝓛 i) (wand 𝓤 (mean 𝓛 i) (Kt us))) (comm∗ 𝓤 (wand 𝓤 (mean 𝓛 i) (Kt us)) (mean 𝓛 i)) (apply∗ 𝓤 (mean 𝓛 i) (Kt us))));
  }

module _ {M : Type 1} {𝓤 : Ura M} {𝓛 : Logic 𝓤} {K : Type 0} {Γ : List (Item 𝓤)} {E : Env 𝓤 𝓛.H} {C : Calls 𝓤 𝓛.H} {Λ : Loops 𝓤 𝓛.H} {q : Post 𝓤 𝓛.H} {f : Callee} {xs : List Operand} {p : Place} {rest : Body} where
  open 𝓛 use {H}

  pub calls : (c : Terms) → K → FmC 𝓤 H 𝓛.laws C → Triple 𝓤 (C f) (triple 𝓛 c) → (s : Args c.params) → Asks c.requires (values c.params s) → Opds K 𝓛 Γ E xs (machine c.params s)
      → ((r : Of c.result) (ws : Left c.params) → c.ensures (values c.params s) r ws → Fits c.result r → Sized c.params (values c.params s) ws → Seq K 𝓛 (after 𝓤 c.params s ws ++ Γ) (lands C Λ E p (c.result.val r) rest q))
      → Seq K 𝓛 (before 𝓤 c.params s ++ Γ) (runs C Λ E (seq (call f xs p) rest) q)
  calls c t fm met s req os k =
      cut (before 𝓤 ps s) (later (some (λ (ns : Names ps). raw (Toks 𝓛 0 ps s ns) ⊛ ‵ (Owns 𝓛 0 ps s ns) ⊛ ‵ (kept ps s ns))) ∷ []) Γ (lends 𝓛 0 ps s) $ await t tt $ pick t (λ ns. split3 t $ join t $
      use0 𝓛 (raw (asks 𝓤 c.requires (at ns))) (asked 𝓛 c.requires (at ns) (subst (Asks c.requires) (passed_is 0 ps s ns) req)) $ move t (1 ∷ 0 ∷ []) $ join t $
      use1 𝓛 (raw ((triple 𝓛 c).pre (to ns))) (id⊢ 𝓤 _) $
      calls_at t fm (triple 𝓛 c) met (to ns) (subst (Opds K 𝓛 _ E xs) (flat_is 0 ps s ns) (beside _ (beside _ os))) (λ v.
      use1 𝓛 (later (some (λ (r : Of c.result). (raw (Toks 𝓛 0 ps s ns) ⊛ ‵ (c.result.row.own_val r (v ∷ []))) ⊛ some (λ (ws : Left ps). ‵ (lasts 0 ps (lfts ps s ns) (denots 0 ps s ns) ws) ⊛ raw (fact 𝓤 (c.ensures (at ns) r ws)))))) (id⊢ 𝓤 _) $
      await t tt $ pick t (λ r. split t $ move t (1 ∷ []) $ pick t (λ ws. split t $ move t (1 ∷ []) $ heard t (c.ensures (at ns) r ws) (λ e.
      -- [the last values; the tokens and the result; what was kept; …]
      move t (1 ∷ []) $ split t $ move t (1 ∷ []) $ peeks t c.result.row (Is c.result.row) (shows 𝓛 c.result.row) r (v ∷ []) (λ is. drop t $
      use3 𝓛 (later (given (Sized ps (values ps s) ws) (raw (⋆ 𝓛 (after 𝓤 ps s ws))))) (returns 𝓛 0 ps s ns ws) $ await t tt $ learn t (λ len. cut (raw (⋆ 𝓛 (after 𝓤 ps s ws)) ∷ []) (after 𝓤 ps s ws) Γ (id⊢ 𝓤 _) $
      subst (λ (us : List Val). Seq K 𝓛 (after 𝓤 ps s ws ++ Γ) (lands C Λ E p (only us) rest q)) (sym (c.result.tells r (v ∷ []) is))
      (k r ws (subst (λ (a : Passed ps). c.ensures a r ws) (sym (passed_is 0 ps s ns)) e) (subst (Is c.result.row r) (c.result.tells r (v ∷ []) is) is) len))))))))
    where
      ps : List Param
      ps = c.params

      at : Names ps → Passed ps
      at ns = passed 0 ps (lfts ps s ns) (denots 0 ps s ns)

      to : Names ps → (triple 𝓛 c).Ghost
      to ns = ((lfts ps s ns, shares ps s, tt, denots 0 ps s ns, machine_values 0 ps (lfts ps s ns) (denots 0 ps s ns)), tt)
