-- Settlement's books close. A participant that is not registered has made and received nothing, and one that is no generator has made nothing, so that the
-- totals over the registered participants are sums over all 32; what they make and what they receive both add up to the ledger's accepted quantities; and
-- with no excess each participant's credits are what it made and what is left. Assumes nothing.
use mathlib.Core.Path.{◌≡◌, refl, sym, ap, ◌∙◌}
use mathlib.Core.Bool.{Bool, true, false, cond, ◌&&◌, false≢true}
use mathlib.Core.List.{[], ◌∷◌}
use Prim.Native.Nat.{ℕ, zero, suc, ◌+◌, ◌-◌, ◌≤◌, ◌<◌}
use native.Mathlib.Omega.{arith}
use lib.Dec.{eqb, ltb}
use lib.ListN.{get_or}
use borrow.Author.Tests.{ltb-false, eqb-true}
use Rattle.share.specs.Totals.{sum_to}
use Rattle.share.proofs.Sums.{sum-add, sum_eq}
use Rattle.book.specs.declared.Account.{Account}
use Rattle.book.specs.declared.Allocation.{Allocation}
use Rattle.book.specs.Book.{Book, account, is_open, is_generator, is_customer, is_registered, no_allocation, participants}
use Rattle.book.specs.Words.{is_accepted, accepted_in, received_in, total, accepted, received, tradeable, excess}
use Rattle.book.specs.Settlement.{Figures, credits, figures_of, settled, reason16, settlement}
use Rattle.book.specs.Run.{usable}
use Rattle.book.proofs.Tests.{none_of}
use Rattle.book.proofs.Sums.{total-append, total_none, with_key}
use Rattle.book.proofs.Sound.{Given, Opened, opened_of}
use Rattle.book.proofs.Bounds.{no_role, accepted_given, agreed, made_adds_up, received_adds_up}

-- ---- a total over settlement is a sum over the registered participants
module _ (b : Book) (f : Figures → ℕ) where
  listed : (t : Bool) (x : Figures) → total f (cond t (x ∷ []) []) ≡ cond t (f x) 0
  unfolding total
  listed true x = omega arith
  listed false x = refl

  settled-total : (n : ℕ) → total f (settled b n) ≡ sum_to n (λ p. cond (is_registered (account b p)) (f (figures_of b p)) 0)
  unfolding settled sum_to total
  settled-total zero = refl
  settled-total (suc n) =
      omega (
        arith,
        total-append f (settled b n) (cond (is_registered (account b n)) (figures_of b n ∷ []) []),
        settled-total n,
        listed (is_registered (account b n)) (figures_of b n),
      )

  -- of all participants, where those not registered have none
  over_all : ((p : ℕ) → is_registered (account b p) ≡ false → f (figures_of b p) ≡ 0) → total f (settlement b) ≡ sum_to participants (λ p. f (figures_of b p))
  unfolding settlement
  over_all none =
      settled-total participants
      ∙ sum_eq participants (λ p. cond (is_registered (account b p)) (f (figures_of b p)) 0) (λ p. f (figures_of b p)) (λ p l. by p (is_registered (account b p)) refl)
    where
      by : (p : ℕ) (t : Bool) → is_registered (account b p) ≡ t → cond t (f (figures_of b p)) 0 ≡ f (figures_of b p)
      by p true e = refl
      by p false e = sym (none p e)

module _ {b : Book} (o : Opened b) where
  -- ---- who lacks a role has nothing in the ledger under it
  without_role : (key : Allocation → ℕ) (role : Account → Bool) → ((a : Allocation) → Given b.accounts a → role (account b (key a)) ≡ true) → (p : ℕ) → role (account b p) ≡ false
      → total (with_key key (λ a. a.quantity.0) (λ a. is_accepted a.status) p) b.ledger ≡ 0
  without_role key role party p none = total_none (with_key key (λ a. a.quantity.0) (λ a. is_accepted a.status) p) no_allocation b.ledger (λ i l. by (get_or b.ledger i no_allocation) (accepted_given o i))
    where
      here : (a : Allocation) (t u : Bool) → eqb (key a) p ≡ t → (u ≡ true → Given b.accounts a) → cond (t && u) a.quantity.0 0 ≡ 0
      here a true true e g = absurd (false≢true (sym none ∙ ap (λ k. role (account b k)) (sym (eqb-true (key a) p e)) ∙ party a (g refl)))
      here a true false e g = refl
      here a false u e g = refl

      by : (a : Allocation) → (is_accepted a.status ≡ true → Given b.accounts a) → with_key key (λ a. a.quantity.0) (λ a. is_accepted a.status) p a ≡ 0
      by a g = here a (eqb (key a) p) (is_accepted a.status) refl g

  made_nothing : (p : ℕ) → is_generator (account b p) ≡ false → accepted b p ≡ 0
  unfolding accepted_in
  made_nothing = without_role (λ a. a.generator) is_generator (λ a g. g.generator)

  received_nothing : (p : ℕ) → is_customer (account b p) ≡ false → received b p ≡ 0
  unfolding received_in
  received_nothing = without_role (λ a. a.customer) is_customer (λ a g. g.customer)

  -- ---- made and received
  pub made_total : total (λ f. f.made) (settlement b) ≡ total agreed b.ledger
  unfolding figures_of
  made_total = over_all b (λ f. f.made) (λ p h. made_nothing p (no_role (account b p) h).0) ∙ made_adds_up o

  pub received_total : total (λ f. f.received) (settlement b) ≡ total agreed b.ledger
  unfolding figures_of
  received_total = over_all b (λ f. f.received) (λ p h. received_nothing p (no_role (account b p) h).1) ∙ received_adds_up o

  -- ---- credits
  no_credits : (p : ℕ) → is_generator (account b p) ≡ false → credits b p ≡ 0
  unfolding credits
  no_credits p h = rw h

  module _ (settles : reason16 b ≡ false) where
    covered : (p : ℕ) → p < participants → accepted b p ≤ credits b p
    unfolding reason16 credits
    covered p l = by (is_generator (account b p)) refl (none_of participants (λ q. is_generator (account b q) && ltb 0 (excess b q)) settles p l)
      where
        by : (t : Bool) → is_generator (account b p) ≡ t → (t && ltb 0 (excess b p)) ≡ false → accepted b p ≤ cond t (tradeable b p) 0
        by true e h = omega (arith, ltb-false 0 (excess b p) h)
        by false e h = omega (arith, made_nothing p e)

    pub credits_total : total (λ f. f.tradeable) (settlement b) ≡ total (λ f. f.received) (settlement b) + total (λ f. f.left) (settlement b)
    unfolding figures_of
    credits_total =
        omega (
          arith,
          over_all b (λ f. f.tradeable) (λ p h. no_credits p (no_role (account b p) h).0),
          over_all b (λ f. f.left) (λ p h. omega (arith, no_credits p (no_role (account b p) h).0)),
          sum_eq participants (credits b) (λ p. accepted b p + (credits b p - accepted b p)) (λ p l. omega (arith, covered p l)),
          sum-add participants (accepted b) (λ p. credits b p - accepted b p),
          made_adds_up o,
          received_total,
        )

-- ---- the books close
pub record Closed (b : Book) : Type 0 where
  -- all tradeable credits equal all received plus all left
  pub credits : total (λ f. f.tradeable) (settlement b) ≡ total (λ f. f.received) (settlement b) + total (λ f. f.left) (settlement b)
  -- all that is made is received
  pub quantities : total (λ f. f.made) (settlement b) ≡ total (λ f. f.received) (settlement b)
  -- and is what the ledger has as accepted
  pub made : total (λ f. f.made) (settlement b) ≡ total agreed b.ledger
  pub received : total (λ f. f.received) (settlement b) ≡ total agreed b.ledger

pub closes : (b : Book) → usable b ≡ true → is_open b ≡ true → reason16 b ≡ false → Closed b
closes b u month settles =
    let o = opened_of b u month in
    record { credits = credits_total o settles; quantities = made_total o ∙ sym (received_total o); made = made_total o; received = received_total o }
