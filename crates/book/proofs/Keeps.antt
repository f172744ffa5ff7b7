-- A sound book stays sound: a done step of each kind rewrites one part of the book, and the reasons that did not apply are what the law for that part asks;
-- a refused step leaves the book. Assumes nothing.
use mathlib.Core.Path.{◌≡◌, refl, sym, ◌∙◌, subst}
use mathlib.Core.Bool.{Bool, true, false, cond, not, ◌&&◌, ◌||◌, and-true, false≢true}
use Prim.Native.Nat.{ℕ, ◌+◌, ◌-◌, ◌≤◌, ◌<◌}
use native.Mathlib.Nat.{add-sub_cancel}
use native.Mathlib.Decide.{ℕ_discrete}
use native.Mathlib.Omega.{arith}
use lib.Dec.{eqb, leb, ltb}
use lib.IntN.{nat_abs}
use borrow.Author.Tests.{ltb-true, ltb-false, leb-true, leb-false, eqb-true, eqb-false, eq-eqb, ne_eqb, not-false}
use Rattle.units.specs.declared.Thousandths.{Thousandths}
use Rattle.record.specs.declared.Step.{Step}
use Rattle.record.specs.declared.Step.TheVariants.{Open, Window, Register, Requirement, Margin, Create, Terminate, Submit, Withdraw, Accept, AskReversal, AgreeReversal, GeneratorAmends, OperatorAmends}
use Rattle.book.specs.declared.Status.{Status}
use Rattle.book.specs.declared.Status.TheVariants as S
use Rattle.book.specs.Book.{Book, account, allocation, is_open, is_generator, is_customer, is_registered, status_number, participants, most_given, most_level, most_quantity, most_figure}
use Rattle.book.specs.Words.{pending, accepted, tradeable, excess, level_place, level, net}
use Rattle.book.specs.Kinds.{time_of}
use Rattle.book.specs.Reasons.{reason_of, reason2, reason3, reason5, reason6, in_range, reason9, reason10, reason11, reason12, reason14, reason15, not_registered, not_given, from_to, quantity_at}
use Rattle.book.specs.Cut.{with_quantity}
use Rattle.book.specs.Steps.{opened, numbered, with_month, with_account, with_levels, with_roles, with_requirement, with_margin, with_status, with_allocation, written, done, book_of}
use Rattle.book.specs.Run.{usable}
use Rattle.book.proofs.Tests.{parts, neither, none_of}
use Rattle.book.proofs.Sound.{Opened, opened_of, opened_sound, fresh_of}
use Rattle.book.proofs.Bounds.{role_below, no_role, level_most, tradeable_most, net_within}
use Rattle.book.proofs.Held.{is_held, held_at}
use Rattle.book.proofs.NoReason.{NoReason, no_reason}
use Rattle.book.proofs.KeepsMonth.{at_minute_lem, window_kept, open_kept}
use Rattle.book.proofs.KeepsAccounts.{account_kept}
use Rattle.book.proofs.KeepsLevels.{levels_kept}
use Rattle.book.proofs.KeepsLedger.{restated, rewritten_kept, submitted_kept}
use Rattle.book.proofs.KeepsCut.{cut_kept}

-- ---- what the tests of the reasons give to the laws of the parts
module _ {b : Book} (o : Opened b) where
  registered_below : (p : ℕ) → not_registered b p ≡ false → p < participants
  registered_below p h = role_below o is_registered refl p (not-false (is_registered (account b p)) h)

  -- nobody names an account that is not yet registered
  roles_kept : (p r : ℕ) → is_registered (account b p) ≡ false → (ltb p participants && from_to 1 3 r) ≡ true → Opened (with_account p (with_roles r) b)
  roles_kept p r new range =
      let below : p < participants = search (parts, ltb-true) in
      let old = o.accounts p below in
      let none = no_role (account b p) new in
      account_kept o p below (with_roles r (account b p)) (record { roles = search (parts, leb-true); requirement = old.requirement; figure = old.figure; net = old.net })
      (λ h. absurd (false≢true (sym none.0 ∙ h))) (λ h. absurd (false≢true (sym none.1 ∙ h)))

  -- the levels of a participant, kind and days in range
  module _ (p k d q : ℕ) (known : not_registered b p ≡ false) (range : (from_to 1 4 k && (from_to 1 b.month.days d && from_to 1 most_level q)) ≡ true) where
    first : 0 < d
    first = search (parts, leb-true)

    credits_kept : (f : ℕ → ℕ) → ((j : ℕ) → j < b.month.days + 1 - d → f (level b p k (d + j)) ≤ most_level) → Opened (with_levels f p k d b)
    credits_kept f low = levels_kept o f p k d (registered_below p known) (search (parts, leb-true)) first (search (parts, leb-true)) (λ j l. rw (sym (next_day j)) (low j l))
      where
        next_day : (j : ℕ) → level_place p k (d + j) ≡ level_place p k d + j
        next_day j = omega (arith, first)

  -- one more allocation: only its generator holds more, and no more than is tradeable
  submit_kept : (g c : ℕ) (q : Thousandths) → (not (is_generator (account b g)) || not (is_customer (account b c))) ≡ false → q.0 ≤ most_quantity → leb most_given b.month.given ≡ false
      → ltb (tradeable b g) (q.0 + pending b g + accepted b g) ≡ false
      → Opened (with_allocation (b.month.given + 1) (λ _. record { generator = g; customer = c; quantity = q; status = S.Submitted }) (with_month numbered b))
  submit_kept g c q roles most room credits =
      let proper = neither (not (is_generator (account b g))) (not (is_customer (account b c))) roles in
      rw (add-sub_cancel b.month.given 1)
      (submitted_kept o (record { generator = g; customer = c; quantity = q; status = S.Submitted }) (leb-false most_given b.month.given room)
      (record { named = refl; generator = not-false (is_generator (account b g)) proper.0; customer = not-false (is_customer (account b c)) proper.1; quantity = most })
      (λ p l. by p l (ℕ_discrete g p)))
    where
      by : (p : ℕ) → p < participants → Dec (g ≡ p) → pending b p + accepted b p + cond (eqb g p && true) q.0 0 ≤ most_quantity
      by p l (yes e) = rw (← e, eq-eqb g g refl) (omega (arith, tradeable_most o g, ltb-false (tradeable b g) (q.0 + pending b g + accepted b g) credits))
      by p l (no e) = rw (ne_eqb g p e) (omega (arith, o.held p l))

  -- one allocation whose number is given
  module _ (p n : ℕ) (known : (not_registered b p || not_given b n) ≡ false) where
    place : n - 1 < b.month.given
    place =
        let given = neither (eqb n 0) (ltb b.month.given n) (neither (not_registered b p) (not_given b n) known).1 in
        omega (arith, eqb-false n 0 given.0, ltb-false b.month.given n given.1)

    -- with a status that holds the generator's credits only if the old one does
    status_kept : (s : Status) → eqb (status_number s) 0 ≡ false → (is_held s ≡ true → is_held (allocation b n).status ≡ true) → Opened (with_allocation n (with_status s) b)
    status_kept s named held = rewritten_kept o n place (with_status s (allocation b n)) (restated (allocation b n) s (o.given (n - 1) place).named named held)

    -- with a lower quantity
    quantity_kept : (q : ℕ) → q < quantity_at b n → Opened (with_allocation n (λ l. with_quantity l q) b)
    quantity_kept q low = rewritten_kept o n place (with_quantity (allocation b n) q) (record { generator = refl; customer = refl; quantity = omega arith; named = refl; held = λ h. h })

-- ---- each kind
-- OPEN is done on the fresh book only, and all other kinds on an open one
month_open : (b : Book) → usable b ≡ true → not (is_open b) ≡ false → Opened b
month_open b u h = opened_of b u (not-false (is_open b) h)

-- ACCEPT finds SUBMITTED where neither 9 nor 10 applies
submitted : (s : ℕ) → (not (eqb s 1) && not (eqb s 2)) ≡ false → eqb s 2 ≡ false → eqb s 1 ≡ true
submitted s not9 not10 = not-false (eqb s 1) (sym (and-true (not (eqb s 1))) ∙ (rw not10 at not9))

written_kept : (b : Book) (s : Step) → usable b ≡ true → NoReason b s → Opened (written b s)
unfolding written reason2 reason3 reason5 reason6 in_range reason9 reason10 reason11 reason12 reason14 reason15
written_kept b (Open d p t) u a =
    subst (λ x. Opened (with_month (opened d p) x)) (sym (fresh_of b u a.no3))
    (open_kept d p (search (parts, leb-true)) (search (parts, leb-true)) (search parts) (search parts))
written_kept b (Window s e t) u a = window_kept (month_open b u a.no2) s e.0 (search (parts, leb-true))
written_kept b (Register p r t) u a = roles_kept (month_open b u a.no2) p r a.no3 a.no7
written_kept b (Requirement p q t) u a =
    let o = month_open b u a.no2 in
    let below = registered_below o p a.no5 in
    let old = o.accounts p below in
    account_kept o p below (with_requirement q (account b p)) (record { roles = old.roles; requirement = leb-true q.0 most_quantity a.no7; figure = old.figure; net = old.net }) (λ h. h) (λ h. h)
written_kept b (Margin p f t) u a =
    let o = month_open b u a.no2 in
    let below = registered_below o p a.no5 in
    let old = o.accounts p below in
    account_kept o p below (with_margin (record { figure = f; net = record { 0 = net b p } }) (account b p)) (record { roles = old.roles; requirement = old.requirement; figure = leb-true (nat_abs f.0) most_figure a.no7; net = net_within o p below }) (λ h. h) (λ h. h)
written_kept b (Create p k d q t) u a =
    credits_kept (month_open b u a.no2) p k d q.0 a.no5 a.no7 (λ l. l + q.0)
    (λ j l. ltb-false most_level (level b p k (d + j) + q.0) (none_of (b.month.days + 1 - d) (λ j. ltb most_level (level b p k (d + j) + q.0)) a.no14 j l))
written_kept b (Terminate p k d q t) u a =
    let o = month_open b u a.no2 in
    credits_kept o p k d q.0 a.no5 a.no7 (λ l. l - q.0) (λ j l. omega (arith, level_most o (level_place p k (d + j))))
written_kept b (Submit g c q t) u a = submit_kept (month_open b u a.no2) g c q a.no6 (search (parts, leb-true)) a.no11 a.no12
written_kept b (Withdraw p n t) u a = status_kept (month_open b u a.no2) p n a.no5 S.Withdrawn refl (λ h. absurd (false≢true h))
written_kept b (Accept p n t) u a = status_kept (month_open b u a.no2) p n a.no5 S.Accepted refl (λ _. held_at (allocation b n).status 1 (submitted (status_number (allocation b n).status) a.no9 a.no10) refl)
written_kept b (AskReversal p n t) u a =
    status_kept (month_open b u a.no2) p n a.no5 (S.ReversalAsked t) refl (λ _. held_at (allocation b n).status 3 (not-false (eqb (status_number (allocation b n).status) 3) a.no9) refl)
written_kept b (AgreeReversal p n t) u a = status_kept (month_open b u a.no2) p n a.no5 S.Reversed refl (λ h. absurd (false≢true h))
written_kept b (GeneratorAmends p n q t) u a =
    quantity_kept (month_open b u a.no2) p n a.no5 q.0
    (leb-false (quantity_at b n) q.0 (neither (leb (quantity_at b n) q.0) (ltb (excess b p) (quantity_at b n - q.0)) a.no15).0)
written_kept b (OperatorAmends g t) u a = cut_kept g (month_open b u a.no2) (tradeable b g) (omega (arith, eqb-false (excess b g) 0 a.no15))

pub keeps : (b : Book) (s : Step) → usable b ≡ true → usable (book_of b s) ≡ true
unfolding book_of done
keeps b s u = by (eqb (reason_of b s) 0) refl
  where
    by : (t : Bool) → eqb (reason_of b s) 0 ≡ t → usable (cond t (done b s) b) ≡ true
    by true e = opened_sound (at_minute_lem (written_kept b s u (no_reason b s (eqb-true (reason_of b s) 0 e))) (time_of s))
    by false e = u
