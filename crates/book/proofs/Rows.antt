-- The table of the frame (`Alters`) row by row: each kind rewrites one table of the book, at one record or along a run of levels, a record that it
-- rewrites keeps its other parts, and the other tables are left alone (`rows`). Assumes nothing.
use mathlib.Core.Path.{◌≡◌, refl, ap}
use mathlib.Core.Logic.{◌⊎◌, inl, inr, ⊎_elim}
use mathlib.Core.Bool.{Bool, true, false, cond, ◌&&◌, and-eq-true_iff}
use mathlib.Core.List.{List, map}
use Prim.Native.Nat.{ℕ, ◌+◌, ◌-◌, ◌%◌, ◌≤◌, ◌<◌}
use native.Mathlib.Omega.{arith}
use lib.Dec.{leb}
use lib.IntN.{ℤ}
use lib.ListN.{get_or, length-set}
use borrow.Author.Tests.{leb-true}
use Rattle.units.specs.declared.Minutes.{Minutes}
use Rattle.units.specs.declared.Thousandths.{Thousandths}
use Rattle.record.specs.declared.Step.{Step}
use Rattle.record.specs.declared.Step.TheVariants.{Open, Window, Register, Requirement, Margin, Create, Terminate, Submit, Withdraw, Accept, AskReversal, AgreeReversal, GeneratorAmends, OperatorAmends}
use Rattle.share.specs.Shares.{share_of}
use Rattle.book.specs.declared.Window as W
use Rattle.book.specs.declared.Margin as K
use Rattle.book.specs.declared.Account.{Account}
use Rattle.book.specs.declared.Allocation.{Allocation}
use Rattle.book.specs.declared.Status.{Status}
use Rattle.book.specs.declared.Status.TheVariants as S
use Rattle.book.specs.Book.{Book, account, no_account, no_allocation, no_window, most_level}
use Rattle.book.specs.Words as Words
use Rattle.book.specs.Kinds.{is, SUBMIT}
use Rattle.book.specs.Reasons.{in_range, from_to}
use Rattle.book.specs.Cut.{cut, is_cut, with_quantity}
use Rattle.book.specs.Steps.{done, written, at_minute, with_month, with_end, with_account, with_roles, with_requirement, with_margin, with_levels, with_ledger, with_allocation, with_status}
use Rattle.book.specs.Frame.{Place, in_month, in_window, in_account, in_levels, in_ledger, MonthPart, days, price, WindowPart, opening, closing, AccountPart, roles, requirement, figure, net, AllocationPart, generator, customer, quantity, status, SameWindow, SameAccount, SameAllocation, Same, SameLengths, LevelsFrom, Alters, May}
use Rattle.book.proofs.NoReason.{NoReason}
use Rattle.book.proofs.Tables.{part, run, run_length}
use Rattle.book.proofs.Recut.{recut-at, recut-length}

-- ---- the parts of a record that is left alone
same_window : (f : WindowPart) (w : W.Window) → SameWindow f w w
same_window opening w = refl
same_window closing w = refl

same_account : (f : AccountPart) (a : Account) → SameAccount f a a
same_account roles a = refl
same_account requirement a = refl
same_account figure a = refl
same_account net a = refl

same_allocation : (f : AllocationPart) (a : Allocation) → SameAllocation f a a
same_allocation generator a = refl
same_allocation customer a = refl
same_allocation quantity a = refl
same_allocation status a = refl

-- ---- the parts of a record that a kind rewrites: named in the kind's row, or kept
opens : (f : MonthPart) → (in_month f ≡ in_month days) ⊎ (in_month f ≡ in_month price)
opens days = inl refl
opens price = inr refl

ends : (first : Bool) (e : ℤ) (i k : ℕ) (f : WindowPart) → k ≡ i
    → (in_window k f ≡ in_window i (cond first opening closing))
    ⊎ ((w : W.Window) → SameWindow f w
    (cond first (record { opening = record { 0 = e }; closing = w.closing }) (record { opening = w.opening; closing = record { 0 = e } })))
ends true e i k opening h = inl (ap (λ j. in_window j opening) h)
ends true e i k closing h = inr (λ w. refl)
ends false e i k opening h = inr (λ w. refl)
ends false e i k closing h = inl (ap (λ j. in_window j closing) h)

registers : (r a p : ℕ) (f : AccountPart) → p ≡ a → (in_account p f ≡ in_account a roles) ⊎ ((c : Account) → SameAccount f c (with_roles r c))
registers r a p roles e = inl (ap (λ i. in_account i roles) e)
registers r a p requirement e = inr (λ c. refl)
registers r a p figure e = inr (λ c. refl)
registers r a p net e = inr (λ c. refl)

requires : (q : Thousandths) (a p : ℕ) (f : AccountPart) → p ≡ a
    → (in_account p f ≡ in_account a requirement) ⊎ ((c : Account) → SameAccount f c (with_requirement q c))
requires q a p roles e = inr (λ c. refl)
requires q a p requirement e = inl (ap (λ i. in_account i requirement) e)
requires q a p figure e = inr (λ c. refl)
requires q a p net e = inr (λ c. refl)

margins : (m : K.Margin) (a p : ℕ) (f : AccountPart) → p ≡ a
    → ((in_account p f ≡ in_account a figure) ⊎ (in_account p f ≡ in_account a net)) ⊎ ((c : Account) → SameAccount f c (with_margin m c))
margins m a p roles e = inr (λ c. refl)
margins m a p requirement e = inr (λ c. refl)
margins m a p figure e = inl (inl (ap (λ i. in_account i figure) e))
margins m a p net e = inl (inr (ap (λ i. in_account i net) e))

moves : (s : Status) (i j : ℕ) (f : AllocationPart) → j ≡ i → (in_ledger j f ≡ in_ledger i status) ⊎ ((a : Allocation) → SameAllocation f a (with_status s a))
moves s i j generator e = inr (λ a. refl)
moves s i j customer e = inr (λ a. refl)
moves s i j quantity e = inr (λ a. refl)
moves s i j status e = inl (ap (λ k. in_ledger k status) e)

amends : (q i j : ℕ) (f : AllocationPart) → j ≡ i → (in_ledger j f ≡ in_ledger i quantity) ⊎ ((a : Allocation) → SameAllocation f a (with_quantity a q))
amends q i j generator e = inr (λ a. refl)
amends q i j customer e = inr (λ a. refl)
amends q i j quantity e = inl (ap (λ k. in_ledger k quantity) e)
amends q i j status e = inr (λ a. refl)

-- ---- the tables of a book
-- each is left alone, or each of its places is in the row M or holds what it held
module _ (M : Place → Type 0) (b b' : Book) where
  abbrev Kept : Place → Type 0
  Kept x = M x ⊎ Same x b b'

  by_table : ((b'.month.days ≡ b.month.days) × (b'.month.price ≡ b.month.price)) ⊎ ((f : MonthPart) → Kept (in_month f))
      → (b'.month.windows ≡ b.month.windows) ⊎ ((k : ℕ) (f : WindowPart) → Kept (in_window k f))
      → (b'.accounts ≡ b.accounts) ⊎ ((p : ℕ) (f : AccountPart) → Kept (in_account p f))
      → (b'.levels ≡ b.levels) ⊎ ((i : ℕ) → Kept (in_levels i))
      → (b'.ledger ≡ b.ledger) ⊎ ((i : ℕ) (f : AllocationPart) → Kept (in_ledger i f))
      → (x : Place) → Kept x
  by_table (inl e) w a l g (in_month days) = inr e.0
  by_table (inl e) w a l g (in_month price) = inr e.1
  by_table (inr h) w a l g (in_month f) = h f
  by_table m (inl e) a l g (in_window k f) = inr (rw e (same_window f (get_or b.month.windows k no_window)))
  by_table m (inr h) a l g (in_window k f) = h k f
  by_table m w (inl e) l g (in_account p f) = inr (rw e (same_account f (account b p)))
  by_table m w (inr h) l g (in_account p f) = h p f
  by_table m w a (inl e) g (in_levels i) = inr (rw e)
  by_table m w a (inr h) g (in_levels i) = h i
  by_table m w a l (inl e) (in_ledger i f) = inr (rw e (same_allocation f (get_or b.ledger i no_allocation)))
  by_table m w a l (inr h) (in_ledger i f) = h i f

-- the books that the kinds leave: the minute stored, and one table rewritten
module _ (M : Place → Type 0) (b : Book) (t : Minutes) where
  in_account_lem : (a : ℕ) (g : Account → Account) → ((p : ℕ) (f : AccountPart) → p ≡ a → M (in_account p f) ⊎ ((c : Account) → SameAccount f c (g c)))
      → (x : Place) → Kept M b (with_month (at_minute t) (with_account a g b)) x
  in_account_lem a g h =
      by_table M b (with_month (at_minute t) (with_account a g b)) (inl (refl, refl)) (inl refl)
      (inr (part SameAccount same_account no_account (λ p f. M (in_account p f)) b.accounts a g h)) (inl refl) (inl refl)

  in_allocation : (n : ℕ) (g : Allocation → Allocation)
      → ((j : ℕ) (f : AllocationPart) → j ≡ n - 1 → M (in_ledger j f) ⊎ ((a : Allocation) → SameAllocation f a (g a)))
      → (x : Place) → Kept M b (with_month (at_minute t) (with_allocation n g b)) x
  in_allocation n g h =
      by_table M b (with_month (at_minute t) (with_allocation n g b)) (inl (refl, refl)) (inl refl) (inl refl) (inl refl)
      (inr (part SameAllocation same_allocation no_allocation (λ j f. M (in_ledger j f)) b.ledger (n - 1) g h))

-- CREATE and TERMINATE: the first day is 1 or later, so each place of the run is a day's
in_levels_lem : (b : Book) (t : Minutes) (g : ℕ → ℕ) (p kind first : ℕ) → 1 ≤ first
    → (x : Place) → Kept (LevelsFrom b p kind first) b (with_month (at_minute t) (with_levels g p kind first b)) x
in_levels_lem b t g p kind first h =
    by_table (LevelsFrom b p kind first) b (with_month (at_minute t) (with_levels g p kind first b)) (inl (refl, refl)) (inl refl) (inl refl) (inr level) (inl refl)
  where
    level : (i : ℕ) → Kept (LevelsFrom b p kind first) b (with_month (at_minute t) (with_levels g p kind first b)) (in_levels i)
    level i =
        ⊎_elim
        (λ (r : (k : ℕ) × (k < b.month.days + 1 - first) × (i ≡ Words.level_place p kind first + k)).
        inl (first + r.0, omega arith, omega arith, ap in_levels (omega arith)))
        (λ e. inr e)
        (run g b.levels (Words.level_place p kind first) (b.month.days + 1 - first) i)

-- their day is in its range (reason 7)
first_day : (b : Book) (k d q : ℕ) → (from_to 1 4 k && (from_to 1 b.month.days d && from_to 1 most_level q)) ≡ true → 1 ≤ d
first_day b k d q e =
    let day = from_to 1 b.month.days d in
    let amount = from_to 1 most_level q in
    let in_range_lem = ((and-eq-true_iff (from_to 1 4 k) (day && amount)).0 e).1 in
    leb-true 1 d ((and-eq-true_iff (leb 1 d) (leb d b.month.days)).0 ((and-eq-true_iff day amount).0 in_range_lem).0).0

-- OPERATOR AMENDS: the statuses and parties of all, and the quantities of those not cut, are as they were
in_cut : (b : Book) (t : Minutes) (g credits : ℕ)
    → (x : Place) → Kept (Alters b (OperatorAmends g t)) b (with_month (at_minute t) (with_ledger (cut g credits) b)) x
unfolding cut
in_cut b t g credits =
    by_table (Alters b (OperatorAmends g t)) b (with_month (at_minute t) (with_ledger (cut g credits) b)) (inl (refl, refl)) (inl refl) (inl refl) (inl refl)
    (inr (λ i f. each i f (is_cut g (get_or b.ledger i no_allocation)) refl))
  where
    old : ℕ → Allocation
    old i = get_or b.ledger i no_allocation

    shares : List ℕ
    shares = share_of (map (Words.accepted_in g) b.ledger) credits

    each : (i : ℕ) (f : AllocationPart) (c : Bool) → is_cut g (old i) ≡ c
        → Alters b (OperatorAmends g t) (in_ledger i f) ⊎ SameAllocation f (old i) (get_or (cut g credits b.ledger) i no_allocation)
    each i f true e =
        rw (recut-at g b.ledger shares i, e)
        (⊎_elim (λ m. inl (i, e, m)) (λ k. inr (k (old i))) (amends (get_or shares i (old i).quantity.0) i i f refl))
    each i f false e = inr (rw (recut-at g b.ledger shares i, e) (same_allocation f (old i)))

-- ---- the table, row by row
-- the tables keep their lengths
ruleset long = (length-set, run_length, recut-length)

-- each kind stores its minute
row : (b : Book) (s : Step) → (done b s).month.given ≡ cond (is SUBMIT s) (b.month.given + 1) b.month.given → SameLengths b (done b s)
    → ((x : Place) → Kept (Alters b s) b (done b s) x) → May s b (done b s)
unfolding done
row b s g l h = record { minute = refl; given = g; lengths = l; each = h }

pub rows : (b : Book) (s : Step) → NoReason b s → May s b (done b s)
unfolding done written cut in_range
rows b (Open d p t) o =
    row b (Open d p t) refl (search long) (by_table _ b (done b (Open d p t)) (inr (λ f. inl (opens f))) (inl refl) (inl refl) (inl refl) (inl refl))
rows b (Window s e t) o =
    row b (Window s e t) refl (search long)
    (by_table _ b (done b (Window s e t)) (inl (refl, refl))
    (inr (part SameWindow same_window no_window _ b.month.windows ((s - 1) % 4) (with_end s e.0) (ends (leb s 4) e.0 ((s - 1) % 4)))) (inl refl) (inl refl) (inl refl))
rows b (Register a r t) o = row b (Register a r t) refl (search long) (in_account_lem _ b t a (with_roles r) (registers r a))
rows b (Requirement a q t) o = row b (Requirement a q t) refl (search long) (in_account_lem _ b t a (with_requirement q) (requires q a))
rows b (Margin a f t) o = row b (Margin a f t) refl (search long) (in_account_lem _ b t a (with_margin (record { figure = f; net = record { 0 = Words.net b a } })) (margins (record { figure = f; net = record { 0 = Words.net b a } }) a))
rows b (Create a k d q t) o = row b (Create a k d q t) refl (search long) (in_levels_lem b t (λ l. l + q.0) a k d (first_day b k d q.0 o.no7))
rows b (Terminate a k d q t) o = row b (Terminate a k d q t) refl (search long) (in_levels_lem b t (λ l. l - q.0) a k d (first_day b k d q.0 o.no7))
rows b (Submit a c q t) o =
    row b (Submit a c q t) refl (search long)
    (by_table _ b (done b (Submit a c q t)) (inl (refl, refl)) (inl refl) (inl refl) (inl refl)
    (inr (part SameAllocation same_allocation no_allocation _ b.ledger (b.month.given + 1 - 1)
    (λ _. record { generator = a; customer = c; quantity = q; status = S.Submitted }) (λ j f e. inl (f, ap (λ i. in_ledger i f) (omega arith))))))
rows b (Withdraw a n t) o = row b (Withdraw a n t) refl (search long) (in_allocation _ b t n (with_status S.Withdrawn) (moves S.Withdrawn (n - 1)))
rows b (Accept a n t) o = row b (Accept a n t) refl (search long) (in_allocation _ b t n (with_status S.Accepted) (moves S.Accepted (n - 1)))
rows b (AskReversal a n t) o = row b (AskReversal a n t) refl (search long) (in_allocation _ b t n (with_status (S.ReversalAsked t)) (moves (S.ReversalAsked t) (n - 1)))
rows b (AgreeReversal a n t) o = row b (AgreeReversal a n t) refl (search long) (in_allocation _ b t n (with_status S.Reversed) (moves S.Reversed (n - 1)))
rows b (GeneratorAmends a n q t) o = row b (GeneratorAmends a n q t) refl (search long) (in_allocation _ b t n (λ l. with_quantity l q.0) (amends q.0 (n - 1)))
rows b (OperatorAmends a t) o = row b (OperatorAmends a t) refl (search long) (in_cut b t a (Words.tradeable b a))
