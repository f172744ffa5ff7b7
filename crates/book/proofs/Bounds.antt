-- How large the numbers of an open book can be. A level is at most 10,000,000, so that two kinds of it over any days, by the days, are at most 20,000,000.
-- What all participants receive is what all make, so that one receives at most 32 times 20,000,000. Assumes nothing.
use mathlib.Core.Path.{◌≡◌, refl, sym, ap, ◌∙◌}
use mathlib.Core.Bool.{Bool, true, false, cond, false≢true}
use Prim.Native.Nat.{ℕ, zero, suc, ◌+◌, ◌*◌, ◌≤◌, ◌<◌}
use native.Mathlib.Nat.{div-le_of_le-mul, mul-le-mul}
use native.Mathlib.Decide.{dec_lt}
use native.Mathlib.Omega.{arith}
use lib.Dec.{eqb}
use lib.IntN.{ℤ, pos, negsuc, neg_ℤ, nat_abs, ◌+ℤ◌, ◌-ℤ◌}
use lib.ListN.{get_or, get_or-eq_default}
use borrow.Author.Tests.{eqb-true, not-false}
use Rattle.share.specs.Totals.{sum_to}
use Rattle.share.proofs.Sums.{sum_bound}
use Rattle.book.specs.declared.Account.{Account}
use Rattle.book.specs.declared.Allocation.{Allocation}
use Rattle.book.specs.Book.{Book, account, is_generator, is_customer, is_registered, no_account, no_allocation, participants, most_price, most_level, most_quantity, most_net, level_places}
use Rattle.book.specs.Words.{is_accepted, accepted_in, received_in, total, pending, accepted, received, level_place, level, over_days, tradeable, tradeable_in, net, exposed_days}
use Rattle.book.specs.Reasons.{change}
use Rattle.book.specs.Settlement.{dsm_of, figures_of}
use Rattle.book.proofs.Magnitudes.{abs_neg, abs_difference, abs-add, abs_less, abs_is, abs_most}
use Rattle.book.proofs.Sums.{total_le, key_part, by_key}
use Rattle.book.proofs.Sound.{Opened, Given}

-- ---- roles
-- who is not registered has none
pub no_role : (a : Account) → is_registered a ≡ false → (is_generator a ≡ false) × (is_customer a ≡ false)
no_role a h = let e = eqb-true a.roles 0 (not-false (eqb a.roles 0) h) in (rw e, rw e)

module _ {b : Book} (o : Opened b) where
  -- and nobody past the accounts has any
  pub role_below : (t : Account → Bool) → t no_account ≡ false → (p : ℕ) → t (account b p) ≡ true → p < participants
  role_below t none p h = by (dec_lt p participants)
    where
      by : Dec (p < participants) → p < participants
      by (yes l) = l
      by (no l) = absurd (false≢true (sym none ∙ ap t (sym (get_or-eq_default b.accounts no_account (omega (arith, o.lengths.accounts)))) ∙ h))

  pub generator_below : {a : Allocation} → Given b.accounts a → a.generator < participants
  generator_below {a} g = role_below is_generator refl a.generator g.generator

  pub customer_below : {a : Allocation} → Given b.accounts a → a.customer < participants
  customer_below {a} g = role_below is_customer refl a.customer g.customer

  -- an accepted allocation is given
  pub accepted_given : (i : ℕ) → is_accepted (get_or b.ledger i no_allocation).status ≡ true → Given b.accounts (get_or b.ledger i no_allocation)
  accepted_given i h = by (dec_lt i b.month.given)
    where
      by : Dec (i < b.month.given) → Given b.accounts (get_or b.ledger i no_allocation)
      by (yes l) = o.given i l
      by (no l) = absurd (false≢true (ap (λ a. is_accepted a.status) (sym (o.later i (omega arith))) ∙ h))

-- ---- credits
pub days_most : (d most : ℕ) (f : ℕ → ℕ) → ((k : ℕ) → f k ≤ most) → over_days d f ≤ d * most
unfolding over_days
days_most zero most f h = omega arith
days_most (suc d) most f h = omega (arith, days_most d most f h, h (suc d))

module _ {b : Book} (o : Opened b) where
  -- at any place of the table, and past it
  pub level_most : (i : ℕ) → get_or b.levels i 0 ≤ most_level
  level_most i = by (dec_lt i level_places)
    where
      by : Dec (i < level_places) → get_or b.levels i 0 ≤ most_level
      by (yes l) = (o.levels i l).most
      by (no l) = rw (get_or-eq_default b.levels 0 {n = i} (omega (arith, o.lengths.levels))) (omega arith)

  -- one kind over so many days
  pub kind_most : (p kind d : ℕ) → over_days d (level b p kind) ≤ d * most_level
  kind_most p kind d = days_most d most_level (level b p kind) (λ day. level_most (level_place p kind day))

  pub tradeable_most : (g : ℕ) → tradeable b g ≤ most_quantity
  unfolding tradeable_in
  tradeable_most g = div-le_of_le-mul b.month.days (omega (arith, kind_most g 1 b.month.days, kind_most g 2 b.month.days))

  pub dsm_most : (p : ℕ) → dsm_of b p ≤ most_level
  unfolding dsm_of
  dsm_most p = div-le_of_le-mul b.month.days (kind_most p 4 b.month.days)

-- ---- quantities
-- what an allocation has of the accepted quantities, whoever made it and whoever receives it
abbrev pub agreed : Allocation → ℕ
agreed a = cond (is_accepted a.status) a.quantity.0 0

module _ {b : Book} (o : Opened b) where
  -- what the participants make, and what they receive, is what the ledger has
  pub made_adds_up : sum_to participants (accepted b) ≡ total agreed b.ledger
  unfolding accepted_in
  made_adds_up = by_key (λ a. a.generator) (λ a. a.quantity.0) (λ a. is_accepted a.status) participants no_allocation b.ledger (λ i l h. generator_below o (accepted_given o i h))

  pub received_adds_up : sum_to participants (received b) ≡ total agreed b.ledger
  unfolding received_in
  received_adds_up = by_key (λ a. a.customer) (λ a. a.quantity.0) (λ a. is_accepted a.status) participants no_allocation b.ledger (λ i l h. customer_below o (accepted_given o i h))

  pub pending_most : (p : ℕ) → p < participants → pending b p ≤ most_quantity
  pending_most p l = omega (arith, o.held p l)

  pub accepted_most : (p : ℕ) → p < participants → accepted b p ≤ most_quantity
  accepted_most p l = omega (arith, o.held p l)

  pub received_most : (p : ℕ) → received b p ≤ most_net
  unfolding received_in
  received_most p =
      omega (
        arith,
        total_le (received_in p) agreed no_allocation b.ledger b.ledger refl (λ i l. key_part (λ a. a.customer) (λ a. a.quantity.0) (λ a. is_accepted a.status) p (get_or b.ledger i no_allocation)),
        made_adds_up,
        sum_bound participants most_quantity (accepted b) accepted_most,
      )

  pub net_within : (p : ℕ) → p < participants → nat_abs (net b p) ≤ most_net
  net_within p l = abs_difference (received b p) (accepted b p) most_net (received_most p) (omega (arith, accepted_most p l))

-- ---- the margin test
pub change_within : (g c q : ℕ) → nat_abs (change g c q) ≤ q
unfolding change
change_within g c q = by (eqb g c)
  where
    by : (t : Bool) → nat_abs (cond t (pos 0) (neg_ℤ (pos q))) ≤ q
    by true = omega arith
    by false = omega (arith, abs_neg (pos q))

pub exposed_most : (t : ℤ) (d : ℕ) → exposed_days t d ≤ d
unfolding exposed_days
exposed_most (pos t) d = omega arith
exposed_most (negsuc t) d = omega arith

-- the net that a change of at most 20,000,000 would give, against the net at the figure
pub margin_net_within : {b : Book} → Opened b → (p : ℕ) (c : ℤ) → p < participants → nat_abs c ≤ most_quantity → nat_abs (net b p +ℤ c -ℤ (account b p).margin.net.0) ≤ most_net + most_quantity + most_net
margin_net_within {b} o p c l h = omega (arith, abs_less (net b p +ℤ c) (account b p).margin.net.0, abs-add (net b p) c, net_within o p l, (o.accounts p l).net)

module _ {b : Book} (o : Opened b) where
  pub price_is : pos (nat_abs b.month.price.0) ≡ b.month.price.0
  price_is = abs_is b.month.price.0 o.month.price_low

  pub price_most : nat_abs b.month.price.0 ≤ most_price
  price_most = abs_most b.month.price.0 most_price o.month.price_low o.month.price_high

  -- in thousandths of a cent
  pub pay_most : (p : ℕ) → (figures_of b p).pay ≤ most_net * most_price
  unfolding figures_of
  pay_most p = mul-le-mul {n₂ = most_net} {m₂ = most_price} (omega (arith, received_most o p)) price_most
