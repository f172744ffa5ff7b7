-- A usable book by plain facts: a month is open and the facts of `Opened` hold of it, or it is the fresh book. Each test of `Sound` passes exactly
-- where its fact holds. Assumes nothing.
use mathlib.Core.Path.{◌≡◌, refl, sym, ap, ◌∙◌}
use mathlib.Core.Bool.{Bool, true, false, not, ◌||◌, or-true, false≢true}
use mathlib.Core.Logic.{◌⊎◌, ⊎_elim}
use mathlib.Core.List.{List}
use Prim.Native.Nat.{ℕ, suc, ◌+◌, ◌%◌, ◌≤◌, ◌<◌}
use native.Mathlib.Decide.{dec_lt}
use native.Mathlib.Omega.{arith}
use lib.Dec.{eqb, leb, ltb}
use lib.IntN.{ℤ, pos, negsuc, nat_abs}
use lib.Signed.{le_z}
use lib.ListN.{length, get_or, replicate, length-replicate, get_or-eq_default}
use lib.Seq.{ext_get_or}
use borrow.Author.Tests.{leb-true, eqb-true, not-true, not-false, le-leb, lt-ltb, le-ltb, eq-eqb}
use Rattle.book.specs.declared.Window.{Window}
use Rattle.book.specs.declared.Month.{Month}
use Rattle.book.specs.declared.Account.{Account}
use Rattle.book.specs.declared.Allocation.{Allocation}
use Rattle.book.specs.declared.Status.{Status}
use Rattle.book.specs.declared.Status.TheVariants.{Empty, Submitted, Withdrawn, Accepted, ReversalAsked, Reversed}
use Rattle.book.specs.Book.{Book, account, is_open, is_generator, is_customer, status_number, fresh, no_window, no_month, no_account, no_allocation, participants, most_given, fewest_days, most_days, most_price, most_level, most_quantity, most_figure, most_net, most_end, level_places}
use Rattle.book.specs.Words.{pending, accepted}
use Rattle.book.specs.Sound.{each, right_lengths, is_zero, is_no_window, is_no_month, is_no_account, is_no_allocation, is_fresh, window_sound, month_sound, account_sound, level_sound, given_sound, record_sound, open_sound, sound}
use Rattle.book.specs.Run.{usable}
use Rattle.book.proofs.Tables.{blank}
use Rattle.book.proofs.Tests.{and_right, parts, both, either, each_of, to_each}

-- ---- the facts
pub record RightLengths (b : Book) : Type 0 where
  pub windows : length b.month.windows ≡ 4
  pub accounts : length b.accounts ≡ participants
  pub levels : length b.levels ≡ level_places
  pub ledger : length b.ledger ≡ most_given

pub record SoundWindow (w : Window) : Type 0 where
  pub opening : nat_abs w.opening.0 ≤ most_end
  pub closing : nat_abs w.closing.0 ≤ most_end

pub record SoundMonth (m : Month) : Type 0 where
  pub fewest : fewest_days ≤ m.days
  pub most : m.days ≤ most_days
  pub price_low : le_z (pos 0) m.price.0 ≡ true
  pub price_high : le_z m.price.0 (pos most_price) ≡ true
  pub given : m.given ≤ most_given
  pub windows : (i : ℕ) → i < 4 → SoundWindow (get_or m.windows i no_window)

pub record SoundAccount (a : Account) : Type 0 where
  pub roles : a.roles ≤ 3
  pub requirement : a.requirement.0 ≤ most_quantity
  pub figure : nat_abs a.margin.figure.0 ≤ most_figure
  pub net : nat_abs a.margin.net.0 ≤ most_net

-- a level at a place of the table: 0 on the days after D
pub record SoundLevel (days place level : ℕ) : Type 0 where
  pub most : level ≤ most_level
  pub after : days ≤ place % 31 → level ≡ 0

-- a record up to the number given
pub record Given (accounts : List Account) (a : Allocation) : Type 0 where
  pub named : eqb (status_number a.status) 0 ≡ false
  pub generator : is_generator (get_or accounts a.generator no_account) ≡ true
  pub customer : is_customer (get_or accounts a.customer no_account) ≡ true
  pub quantity : a.quantity.0 ≤ most_quantity

pub record Opened (b : Book) : Type 0 where
  pub lengths : RightLengths b
  pub month : SoundMonth b.month
  pub accounts : (p : ℕ) → p < participants → SoundAccount (account b p)
  pub levels : (i : ℕ) → i < level_places → SoundLevel b.month.days i (get_or b.levels i 0)
  pub given : (i : ℕ) → i < b.month.given → Given b.accounts (get_or b.ledger i no_allocation)
  pub later : (i : ℕ) → b.month.given ≤ i → get_or b.ledger i no_allocation ≡ no_allocation
  pub held : (p : ℕ) → p < participants → pending b p + accepted b p ≤ most_quantity

-- ---- the fresh book, part by part
zero_is : (z : ℤ) → is_zero z ≡ true → z ≡ pos 0
zero_is (pos n) h = ap pos (eqb-true n 0 h)
zero_is (negsuc n) h = absurd (omega (arith, eqb-true (suc n) 0 h))

empty_is : (s : Status) → eqb (status_number s) 0 ≡ true → s ≡ Empty
empty_is Empty h = refl
empty_is Submitted h = cc
empty_is Withdrawn h = cc
empty_is Accepted h = cc
empty_is (ReversalAsked t) h = cc
empty_is Reversed h = cc

-- a table whose entries all pass a test that only d passes
table_is : {A : Type 0} (n : ℕ) (d : A) (t : A → Bool) → ((a : A) → t a ≡ true → a ≡ d) → (l : List A) → length l ≡ n → each n (λ i. t (get_or l i d)) ≡ true → l ≡ replicate n d
table_is n d t is l e h =
    ext_get_or d l (replicate n d) (e ∙ sym (length-replicate n d))
    (λ i o. is (get_or l i d) (each_of n (λ i. t (get_or l i d)) h i (omega arith)) ∙ sym (blank n i d))

window_is : (w : Window) → is_no_window w ≡ true → w ≡ no_window
window_is w h = λ i. record { opening = record { 0 = zero_is w.opening.0 (search parts) i }; closing = record { 0 = zero_is w.closing.0 (search parts) i } }

month_is : (m : Month) → length m.windows ≡ 4 → is_no_month m ≡ true → m ≡ no_month
unfolding is_no_month
month_is m e h = λ i. record {
  days = eqb-true m.days 0 (search parts) i;
  price = record { 0 = zero_is m.price.0 (search parts) i };
  last = record { 0 = zero_is m.last.0 (search parts) i };
  given = eqb-true m.given 0 (search parts) i;
  windows = table_is 4 no_window is_no_window window_is m.windows e (search parts) i;
}

account_is : (a : Account) → is_no_account a ≡ true → a ≡ no_account
unfolding is_no_account
account_is a h = λ i. record {
  roles = eqb-true a.roles 0 (search parts) i;
  requirement = record { 0 = eqb-true a.requirement.0 0 (search parts) i };
  margin = record { figure = record { 0 = zero_is a.margin.figure.0 (search parts) i }; net = record { 0 = zero_is a.margin.net.0 (search parts) i } };
}

pub allocation_is : (a : Allocation) → is_no_allocation a ≡ true → a ≡ no_allocation
unfolding is_no_allocation
allocation_is a h = λ i. record {
  generator = eqb-true a.generator 0 (search parts) i;
  customer = eqb-true a.customer 0 (search parts) i;
  quantity = record { 0 = eqb-true a.quantity.0 0 (search parts) i };
  status = empty_is a.status (search parts) i;
}

book_is : (b : Book) → RightLengths b → is_fresh b ≡ true → b ≡ fresh
unfolding is_fresh fresh
book_is b l h = λ i. record {
  month = month_is b.month l.windows (search parts) i;
  accounts = table_is participants no_account is_no_account account_is b.accounts l.accounts (search parts) i;
  levels = table_is level_places 0 (λ n. eqb n 0) (λ n. eqb-true n 0) b.levels l.levels (search parts) i;
  ledger = table_is most_given no_allocation is_no_allocation allocation_is b.ledger l.ledger (search parts) i;
}

-- ---- an open book: the facts from the tests
lengths_of : (b : Book) → right_lengths b ≡ true → RightLengths b
unfolding right_lengths
lengths_of b h = search (parts, eqb-true)

window_of : (w : Window) → window_sound w ≡ true → SoundWindow w
window_of w h = search (parts, leb-true)

month_of : (m : Month) → month_sound m ≡ true → SoundMonth m
unfolding month_sound
month_of m h = record {
  fewest = search (parts, leb-true);
  most = search (parts, leb-true);
  price_low = search parts;
  price_high = search parts;
  given = search (parts, leb-true);
  windows = λ i o. window_of (get_or m.windows i no_window) (each_of 4 (λ i. window_sound (get_or m.windows i no_window)) (search parts) i o);
}

account_of : (a : Account) → account_sound a ≡ true → SoundAccount a
unfolding account_sound
account_of a h = search (parts, leb-true)

level_of : (days place level : ℕ) → level_sound days place level ≡ true → SoundLevel days place level
unfolding level_sound
level_of days place level h = record {
  most = search (parts, leb-true);
  after = λ o. eqb-true level 0 (rw (le-ltb (place % 31) days o) at (and_right (leb level most_level) (ltb (place % 31) days || eqb level 0) h));
}

given_of : (b : Book) (a : Allocation) → given_sound b a ≡ true → Given b.accounts a
unfolding given_sound
given_of b a h = search (parts, not-true, leb-true)

facts_of : (b : Book) → right_lengths b ≡ true → open_sound b ≡ true → Opened b
unfolding open_sound
facts_of b l h = record {
  lengths = long;
  month = month;
  accounts = λ p o. account_of (account b p) (each_of participants (λ p. account_sound (account b p)) (search parts) p o);
  levels = λ i o. level_of b.month.days i (get_or b.levels i 0) (each_of level_places (λ i. level_sound b.month.days i (get_or b.levels i 0)) (search parts) i o);
  given = λ i o. given_of b (get_or b.ledger i no_allocation) (rw (lt-ltb i b.month.given o) at (records i (omega (arith, month.given))));
  later = λ i o. by i o (dec_lt i most_given);
  held = λ p o. leb-true (pending b p + accepted b p) most_quantity (each_of participants (λ p. leb (pending b p + accepted b p) most_quantity) (search parts) p o);
}
  where
    long : RightLengths b
    long = lengths_of b l

    month : SoundMonth b.month
    month = month_of b.month (search parts)

    records : (i : ℕ) → i < most_given → record_sound b i ≡ true
    records = each_of most_given (record_sound b) (search parts)

    by : (i : ℕ) → b.month.given ≤ i → Dec (i < most_given) → get_or b.ledger i no_allocation ≡ no_allocation
    by i o (yes k) = allocation_is (get_or b.ledger i no_allocation) (rw (le-ltb i b.month.given o) at (records i k))
    by i o (no k) = get_or-eq_default b.ledger no_allocation (omega (arith, long.ledger))

-- ---- and the tests from the facts
lengths_to : (b : Book) → RightLengths b → right_lengths b ≡ true
unfolding right_lengths
lengths_to b l = search (both, eq-eqb)

window_to : (w : Window) → SoundWindow w → window_sound w ≡ true
window_to w f = search (both, le-leb)

month_to : (m : Month) → SoundMonth m → month_sound m ≡ true
unfolding month_sound
month_to m f = search (both, le-leb, to_each 4 (λ i. window_sound (get_or m.windows i no_window)) (λ i o. window_to (get_or m.windows i no_window) (f.windows i o))) depth 7

account_to : (a : Account) → SoundAccount a → account_sound a ≡ true
unfolding account_sound
account_to a f = search (both, le-leb)

level_to : (days place level : ℕ) → SoundLevel days place level → level_sound days place level ≡ true
unfolding level_sound
level_to days place level f = both (leb level most_level) (ltb (place % 31) days || eqb level 0) (le-leb level most_level f.most) (by (dec_lt (place % 31) days))
  where
    by : Dec (place % 31 < days) → (ltb (place % 31) days || eqb level 0) ≡ true
    by (yes o) = rw (lt-ltb (place % 31) days o)
    by (no o) = rw (eq-eqb level 0 (f.after (omega arith))) (or-true (ltb (place % 31) days))

given_to : (b : Book) (a : Allocation) → Given b.accounts a → given_sound b a ≡ true
unfolding given_sound
given_to b a f = search (both, le-leb, ap not f.named)

record_to : (b : Book) → Opened b → (i : ℕ) → record_sound b i ≡ true
unfolding is_no_allocation
record_to b o i = by (dec_lt i b.month.given)
  where
    by : Dec (i < b.month.given) → record_sound b i ≡ true
    by (yes l) = rw (lt-ltb i b.month.given l) (given_to b (get_or b.ledger i no_allocation) (o.given i l))
    by (no l) = rw (le-ltb i b.month.given (omega arith)) (ap is_no_allocation (o.later i (omega arith)))

facts_to : (b : Book) → Opened b → open_sound b ≡ true
unfolding open_sound
facts_to b o = search (
  both,
  month_to b.month o.month,
  to_each participants (λ p. account_sound (account b p)) (λ p l. account_to (account b p) (o.accounts p l)),
  to_each level_places (λ i. level_sound b.month.days i (get_or b.levels i 0)) (λ i l. level_to b.month.days i (get_or b.levels i 0) (o.levels i l)),
  to_each most_given (record_sound b) (λ i l. record_to b o i),
  to_each participants (λ p. leb (pending b p + accepted b p) most_quantity) (λ p l. le-leb (pending b p + accepted b p) most_quantity (o.held p l)),
)

-- ---- a usable book is an open one or the fresh one
pub opened_sound : {b : Book} → Opened b → usable b ≡ true
unfolding sound
opened_sound {b} o = both (right_lengths b) (is_fresh b || open_sound b) (lengths_to b o.lengths) (rw (facts_to b o) (or-true (is_fresh b)))

-- with days 0 no month is open, and an open month has 28 at least
module _ (b : Book) (u : usable b ≡ true) where
  kind : (is_fresh b ≡ true) ⊎ (open_sound b ≡ true)
  unfolding sound
  kind = either (is_fresh b) (open_sound b) (search parts)

  pub opened_of : is_open b ≡ true → Opened b
  unfolding is_fresh is_no_month
  opened_of o =
      ⊎_elim
      (λ (f : is_fresh b ≡ true). let e : eqb b.month.days 0 ≡ true = search parts in absurd (false≢true (ap not (sym e) ∙ o)))
      (λ (s : open_sound b ≡ true). facts_of b (search parts) s)
      kind

  pub fresh_of : is_open b ≡ false → b ≡ fresh
  fresh_of n =
      ⊎_elim
      (λ (f : is_fresh b ≡ true). book_is b (lengths_of b (search parts)) f)
      (λ (s : open_sound b ≡ true). absurd (omega (arith, (facts_of b (search parts) s).month.fewest, eqb-true b.month.days 0 (not-false (eqb b.month.days 0) n))))
      kind

pub fresh_lengths : RightLengths fresh
unfolding fresh
fresh_lengths = record {
  windows = length-replicate 4 no_window;
  accounts = length-replicate participants no_account;
  levels = length-replicate {A = ℕ} level_places 0;
  ledger = length-replicate most_given no_allocation;
}

table_passes : {A : Type 0} (n : ℕ) (d : A) (t : A → Bool) → t d ≡ true → each n (λ i. t (get_or (replicate n d) i d)) ≡ true
table_passes n d t h = to_each n (λ i. t (get_or (replicate n d) i d)) (λ i o. ap t (blank n i d) ∙ h)

fresh_passes : is_fresh fresh ≡ true
unfolding is_fresh fresh is_no_month is_no_account is_no_allocation
fresh_passes = search (
  both,
  table_passes 4 no_window is_no_window refl,
  table_passes participants no_account is_no_account refl,
  table_passes level_places 0 (λ n. eqb n 0) refl,
  table_passes most_given no_allocation is_no_allocation refl,
)

pub fresh-sound : usable fresh ≡ true
unfolding sound
fresh-sound = both (right_lengths fresh) (is_fresh fresh || open_sound fresh) (lengths_to fresh fresh_lengths) (rw fresh_passes)
