-- Document 01, "The step record", the column "Does", and "Reasons for refusal": what a done step writes, and that it writes nothing else; a step's
-- answer, and the book it leaves. Assumes nothing.
use Rattle.std.specs.Prelude.{cond, List, ℕ, zero, suc, ◌+◌, ◌-◌, ◌%◌, eqb, leb, ℤ, get_or, set}
use Rattle.units.specs.declared.Cents.{Cents}
use Rattle.units.specs.declared.Minutes.{Minutes}
use Rattle.units.specs.declared.Thousandths.{Thousandths}
use Rattle.record.specs.declared.Step.{Step}
use Rattle.record.specs.declared.Step.TheVariants.{Open, Window, Register, Requirement, Margin, Create, Terminate, Submit, Withdraw, Accept, AskReversal, AgreeReversal, GeneratorAmends, OperatorAmends}
use Rattle.book.specs.declared.Window as W
use Rattle.book.specs.declared.Month.{Month}
use Rattle.book.specs.declared.Margin as M
use Rattle.book.specs.declared.Account.{Account}
use Rattle.book.specs.declared.Allocation.{Allocation}
use Rattle.book.specs.declared.Answer.{Answer}
use Rattle.book.specs.declared.Status.{Status}
use Rattle.book.specs.declared.Status.TheVariants as S
use Rattle.book.specs.Book.{Book, account, allocation, no_window}
use Rattle.book.specs.Words.{tradeable, net, level_place}
use Rattle.book.specs.Kinds.{is, time_of, SUBMIT}
use Rattle.book.specs.Reasons.{reason_of}
use Rattle.book.specs.Cut.{cut, with_quantity}

-- ---- the parts of a book, rewritten
-- the minute of the last step done
abbrev pub at_minute : Minutes → Month → Month
at_minute t m = record { days = m.days; price = m.price; last = t; given = m.given; windows = m.windows }

-- OPEN
abbrev pub opened : ℕ → Cents → Month → Month
opened d p m = record { days = d; price = p; last = m.last; given = m.given; windows = m.windows }

-- WINDOW: selector 1 to 4 sets an opening, 5 to 8 a closing
abbrev pub with_end : ℕ → ℤ → W.Window → W.Window
with_end s e w = cond (leb s 4) (record { opening = record { 0 = e }; closing = w.closing }) (record { opening = w.opening; closing = record { 0 = e } })

abbrev pub window_set : ℕ → ℤ → Month → Month
window_set s e m = record { days = m.days; price = m.price; last = m.last; given = m.given; windows = set m.windows ((s - 1) % 4) (with_end s e (get_or m.windows ((s - 1) % 4) no_window)) }

-- SUBMIT: one number more
abbrev pub numbered : Month → Month
numbered m = record { days = m.days; price = m.price; last = m.last; given = m.given + 1; windows = m.windows }

-- REGISTER sets A's roles, REQUIREMENT the requirement, MARGIN figure and present net
abbrev pub with_roles : ℕ → Account → Account
with_roles r a = record { roles = r; requirement = a.requirement; margin = a.margin }

abbrev pub with_requirement : Thousandths → Account → Account
with_requirement q a = record { roles = a.roles; requirement = q; margin = a.margin }

abbrev pub with_margin : M.Margin → Account → Account
with_margin k a = record { roles = a.roles; requirement = a.requirement; margin = k }

-- an allocation with another status
abbrev pub with_status : Status → Allocation → Allocation
with_status s a = record { generator = a.generator; customer = a.customer; quantity = a.quantity; status = s }

-- f at each of the n levels from a place on
unfoldable pub changed : (ℕ → ℕ) → List ℕ → ℕ → ℕ → List ℕ
changed f lv from zero = lv
changed f lv from (suc n) = set (changed f lv from n) (from + n) (f (get_or lv (from + n) 0))

-- ---- a book with one part rewritten
abbrev pub with_month : (Month → Month) → Book → Book
with_month f b = record { month = f b.month; accounts = b.accounts; levels = b.levels; ledger = b.ledger }

abbrev pub with_account : ℕ → (Account → Account) → Book → Book
with_account p f b = record { month = b.month; accounts = set b.accounts p (f (account b p)); levels = b.levels; ledger = b.ledger }

abbrev pub with_levels : (ℕ → ℕ) → ℕ → ℕ → ℕ → Book → Book
with_levels f p kind day b =
    record { month = b.month; accounts = b.accounts; levels = changed f b.levels (level_place p kind day) (b.month.days + 1 - day); ledger = b.ledger }

abbrev pub with_ledger : (List Allocation → List Allocation) → Book → Book
with_ledger f b = record { month = b.month; accounts = b.accounts; levels = b.levels; ledger = f b.ledger }

-- allocation number n rewritten
abbrev pub with_allocation : ℕ → (Allocation → Allocation) → Book → Book
with_allocation n f b = with_ledger (λ l. set l (n - 1) (f (allocation b n))) b

-- ---- what a done step writes; each stores its minute too
unfoldable pub written : Book → Step → Book
written b (Open d p t) = with_month (opened d p) b
written b (Window s e t) = with_month (window_set s e.0) b
written b (Register a r t) = with_account a (with_roles r) b
written b (Requirement a q t) = with_account a (with_requirement q) b
written b (Margin a f t) = with_account a (with_margin (record { figure = f; net = record { 0 = net b a } })) b
written b (Create a k d q t) = with_levels (λ l. l + q.0) a k d b
written b (Terminate a k d q t) = with_levels (λ l. l - q.0) a k d b
written b (Submit a c q t) = with_allocation (b.month.given + 1) (λ _. record { generator = a; customer = c; quantity = q; status = S.Submitted }) (with_month numbered b)
written b (Withdraw a n t) = with_allocation n (with_status S.Withdrawn) b
written b (Accept a n t) = with_allocation n (with_status S.Accepted) b
written b (AskReversal a n t) = with_allocation n (with_status (S.ReversalAsked t)) b
written b (AgreeReversal a n t) = with_allocation n (with_status S.Reversed) b
written b (GeneratorAmends a n q t) = with_allocation n (λ l. with_quantity l q.0) b
written b (OperatorAmends a t) = with_ledger (cut a (tradeable b a)) b

unfoldable pub done : Book → Step → Book
done b s = with_month (at_minute (time_of s)) (written b s)

-- ---- the answer: the reason, or 0, and the number given, which is 0 but for a done SUBMIT
abbrev pub refusal : ℕ → Answer
refusal r = record { reason = r; number = 0 }

-- the number a done step gives
unfoldable pub number_given : Book → Step → ℕ
number_given b s = cond (is SUBMIT s) (b.month.given + 1) 0

unfoldable pub answer_of : Book → Step → Answer
answer_of b s = cond (eqb (reason_of b s) 0) (record { reason = 0; number = number_given b s }) (refusal (reason_of b s))

-- the book afterwards: a refused step writes to no part of it
unfoldable pub book_of : Book → Step → Book
book_of b s = cond (eqb (reason_of b s) 0) (done b s) b
