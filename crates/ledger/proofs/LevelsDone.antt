-- What the levels room leaves is document 01's step: one that is let in has its numbers inside their ranges (`fits`), the only later reason is 14, read
-- one level after the other, and the levels are all that is written besides the minute. Assumes nothing.
use mathlib.Core.Path.{◌≡◌, refl, sym, ap, fun_ext, subst, ◌∙◌}
use mathlib.Core.Bool.{Bool, true, false, cond, ◌&&◌}
use mathlib.Core.List.{List}
use Prim.Native.Nat.{ℕ, ◌+◌, ◌-◌, ◌≤◌}
use native.Mathlib.Omega.{arith}
use lib.Dec.{eqb}
use lib.ListN.{get_or}
use borrow.Author.Tests.{leb-true, not-true, not-false, eq-eqb}
use Rattle.std.specs.Prelude.{Some, None, Ok, Err}
use Rattle.record.specs.declared.Step.{Step}
use Rattle.book.specs.declared.Month.{Month}
use Rattle.book.specs.declared.Account.{Account}
use Rattle.book.specs.declared.Allocation.{Allocation}
use Rattle.book.specs.Book.{Book, account, no_account, most_days, most_level}
use Rattle.book.specs.Words.{level_place}
use Rattle.book.specs.Reasons.{from_to, some, some_level, not_registered, late, lowest, reason5, in_range, reason12, reason13, reason14, reason15, reason_of}
use Rattle.book.specs.Steps.{changed, at_minute, with_month, with_levels, written, done, number_given, book_of}
use Rattle.book.proofs.Tests.{parts}
use Rattle.sound.specs.Check.{book_from}
use Rattle.reasons.specs.declared.Reason.{Reason}
use Rattle.reasons.specs.Numbers.{reason_number}
use Rattle.gate.specs.declared.LevelChange.{LevelChange}
use Rattle.gate.specs.declared.LevelChange.TheVariants.{Create, Terminate}
use Rattle.gate.specs.declared.LevelStep.{LevelStep}
use Rattle.gate.specs.Rooms.{creates, credits, level_step}
use Rattle.gate.specs.Doors.{ByParty}
use Rattle.gate.proofs.Split.{at_door, let_in}
use Rattle.ledger.specs.Judging.{blocks, blocked_in}
use Rattle.ledger.specs.Writing.{moved_by, stepped}
use Rattle.ledger.specs.Rooms.{DoesStep, StepFits, Moved, Known, Credited, LevelsRoom}
use Rattle.ledger.proofs.Doing.{refusing, refuses, does}
use Rattle.ledger.proofs.Passed.{Passed, passed, seen_book, seen_roles}

between : (low high n : ℕ) → from_to low high n ≡ true → (low ≤ n) × (n ≤ high)
between low high n h = (leb-true low n (search parts), leb-true n high (search parts))

-- the levels from a day on, one place after the other
levels_is : (b : Book) (p kind day : ℕ) (f : ℕ → Bool) → 1 ≤ day → some (b.month.days + 1 - day) (λ k. f (get_or b.levels (level_place p kind day + k) 0)) ≡ some_level b p kind day f
levels_is b p kind day f l = ap (some (b.month.days + 1 - day)) (fun_ext (λ k. ap (λ place. f (get_or b.levels place 0)) (next k)))
  where
    next : (k : ℕ) → level_place p kind day + k ≡ level_place p kind (day + k)
    next k = omega arith

-- ---- both kinds alike
module _ (b : Book) (x : LevelStep) where
  abbrev kind_of : LevelChange → Step
  kind_of change = credits change x.participant x.kind x.day x.quantity x.at

  in_range_lem : (change : LevelChange) → Passed b (kind_of change)
      → (not_registered b x.participant ≡ false) × ((from_to 1 4 x.kind && (from_to 1 b.month.days x.day && from_to 1 most_level x.quantity.0)) ≡ true)
  unfolding reason5 in_range
  in_range_lem Create h = (h.no5, h.no7)
  in_range_lem Terminate h = (h.no5, h.no7)

  late_is : (change : LevelChange) → lowest late b (kind_of change) ≡ cond (some_level b x.participant x.kind x.day (blocks (creates change) x.quantity.0)) 14 0
  unfolding reason12 reason13 reason14 reason15
  late_is Create = refl
  late_is Terminate = refl

  done_is : (change : LevelChange) → done b (kind_of change) ≡ with_month (at_minute x.at) (with_levels (moved_by (creates change) x.quantity.0) x.participant x.kind x.day b)
  unfolding done written
  done_is Create = refl
  done_is Terminate = refl

  no_number : (change : LevelChange) → number_given b (kind_of change) ≡ 0
  unfolding number_given
  no_number Create = refl
  no_number Terminate = refl

-- ---- the reason, and the levels
module _ (m : Month) (roles : ℕ) (x : LevelStep) (n : ℕ) (door : ByParty m x.participant roles (level_step x) n) where
  pub fits : m.days ≤ most_days → Known roles x.participant → n ≡ 0 → StepFits m x
  fits days known z =
      let b = seen_book m x.participant roles in
      let seen = seen_roles m x.participant roles in
      let ok = in_range_lem b x x.change (passed b (level_step x) (sym (door b refl seen) ∙ z)) in
      let has : eqb roles 0 ≡ false = ap (λ r. eqb r 0) (sym seen) ∙ not-true (eqb (account b x.participant).roles 0) (not-false _ ok.0) in
      let range = ok.1 in
      let kind = between 1 4 x.kind (search parts) in
      let day = between 1 m.days x.day (search parts) in
      let quantity = between 1 most_level x.quantity.0 (search parts) in
      record { party = known has; kind_low = kind.0; kind_high = kind.1; day_low = day.0; day_high = day.1; days = days; quantity = quantity.1 }

  pub refused : (lv : List ℕ) → eqb n 0 ≡ false → Credited m roles lv x n lv
  unfolding book_of
  refused lv z b e-m e-r e-l = let is = at_door b (level_step x) n (door b e-m e-r) z in (is, rw (ap (λ k. eqb k 0) (sym is) ∙ z) (sym e-l))

  module _ (lv : List ℕ) (b : Book) (e-m : b.month ≡ m) (e-r : (account b x.participant).roles ≡ roles) (e-l : b.levels ≡ lv) where
    abbrev blocked : Bool
    blocked = blocked_in (creates x.change) x.quantity.0 lv (level_place x.participant x.kind x.day) (m.days + 1 - x.day)

    reason_is : n ≡ 0 → 1 ≤ x.day → reason_of b (level_step x) ≡ cond blocked 14 0
    unfolding blocked_in
    reason_is z l =
        let seen = levels_is b x.participant x.kind x.day (blocks (creates x.change) x.quantity.0) l in
        sym (let_in b (level_step x) n (door b e-m e-r) (eq-eqb n 0 z)) ∙ late_is b x x.change ∙ rw (← seen, e-m, e-l)

    levels_are : (y : Bool) → reason_of b (level_step x) ≡ cond y 14 0
        → cond y lv (changed (moved_by (creates x.change) x.quantity.0) lv (level_place x.participant x.kind x.day) (m.days + 1 - x.day)) ≡ (book_of b (level_step x)).levels
    unfolding book_of
    levels_are true e = rw e (sym e-l)
    levels_are false e = rw (e, done_is b x x.change, e-m, e-l)

  pub credited : n ≡ 0 → StepFits m x → (lv : List ℕ) (r : ℕ) (lv' : List ℕ) → Moved m lv x r lv' → Credited m roles lv x r lv'
  credited z fit lv r lv' moved b e-m e-r e-l = let is = reason_is lv b e-m e-r e-l z fit.day_low in (moved.0 ∙ sym is, moved.1 ∙ levels_are lv b e-m e-r e-l (blocked lv b e-m e-r e-l) is)

-- ---- the whole book
module _ (m : Month) (accounts : List Account) (lv : List ℕ) (x : LevelStep) (a : Account) (e-a : a ≡ get_or accounts x.participant no_account) (n : ℕ) (lv' : List ℕ) (is : Credited m a.roles lv x n lv') where
  module _ (ledger : List Allocation) where
    abbrev book : Book
    book = book_from m accounts lv ledger

    own : (n ≡ reason_of book (level_step x)) × (lv' ≡ (book_of book (level_step x)).levels)
    own = is book refl (ap (λ (y : Account). y.roles) (sym e-a)) refl

    left : lv' ≡ (cond (eqb n 0) (done book (level_step x)) book).levels
    unfolding book_of
    left = own.1 ∙ rw own.0

  pub kept : (r : Reason) → reason_number r ≡ n → LevelsRoom m accounts lv x (stepped m (Err r)) lv'
  kept r e ledger ts ready =
      let b = book ledger in
      let same : lv' ≡ lv = left ledger ∙ ap (λ k. (cond (eqb k 0) (done b (level_step x)) b).levels) (sym e) ∙ ap (λ z. (cond z (done b (level_step x)) b).levels) (refusing r) in
      subst (λ ys. DoesStep b (Some (level_step x)) (stepped m (Err r)) accounts ys ledger ts) (sym same) (refuses b (level_step x) r (e ∙ (own ledger).0) ts ready.1)

  pub leaves : 0 ≡ n → LevelsRoom m accounts lv x (stepped (at_minute x.at m) (Ok None)) lv'
  leaves z ledger ts ready =
      let b = book ledger in
      let moved : lv' ≡ (done b (level_step x)).levels = left ledger ∙ ap (λ k. (cond (eqb k 0) (done b (level_step x)) b).levels) (sym z) in
      does b (level_step x) (z ∙ (own ledger).0) (at_minute x.at m) None (rw (moved, done_is b x x.change)) (rw (no_number b x x.change)) ready.1
