-- A done step alters only what its row of the table names (`frame`, from `rows`). A refused step alters nothing (`refused`), and a record is a done
-- step's or refused (`recorded`). The places of the table are the whole book (`whole`), and no two levels share one (`own_place`). Assumes nothing.
use mathlib.Core.Path.{◌≡◌, refl}
use mathlib.Core.Logic.{◌⊎◌, inl, inr, ⊎_elim, ◌≢◌}
use mathlib.Core.Bool.{Bool, true, false}
use mathlib.Core.List.{List}
use Prim.Native.Nat.{ℕ, ◌≤◌}
use native.Mathlib.Decide.{ℕ_discrete}
use native.Mathlib.Omega.{arith}
use lib.Seq.{ext_get_or}
use borrow.Author.Tests.{ne_eqb}
use Rattle.std.specs.Prelude.{Option, Some, None}
use Rattle.record.specs.declared.Step.{Step}
use Rattle.record.specs.Record.{decode_of}
use Rattle.book.specs.Book.{Book, no_account, no_allocation, no_window, most_days}
use Rattle.book.specs.Words.{level_place}
use Rattle.book.specs.Reasons.{reason_of}
use Rattle.book.specs.Steps.{refusal, answer_of, book_of, done}
use Rattle.book.specs.Run.{usable, record_answer, record_book, decoded_answer, decoded_book}
use Rattle.book.specs.Frame.{Place, in_month, in_window, in_account, in_levels, in_ledger, days, price, opening, closing, roles, requirement, figure, net, generator, customer, quantity, status, Same, SameLengths, May, Refused, Done}
use Rattle.book.proofs.NoReason.{no_reason}
use Rattle.book.proofs.Rows.{rows}

-- ---- a step
-- the book that a done step leaves
pub written_when_done : (b : Book) (s : Step) → reason_of b s ≡ 0 → book_of b s ≡ done b s
unfolding book_of
written_when_done b s e = rw e

-- a done step alters only the places in its row
pub frame : (b : Book) (s : Step) → reason_of b s ≡ 0 → May s b (book_of b s)
frame b s e = rw (written_when_done b s e) (rows b s (no_reason b s e))

-- a refused step answers its reason and number 0, and leaves the book as it was
pub refused : (b : Book) (s : Step) → reason_of b s ≢ 0 → Refused b (book_of b s) (answer_of b s)
unfolding book_of answer_of
refused b s h = rw (ne_eqb (reason_of b s) 0 h) (record { reason = h; number = refl; same = refl })

-- ---- a record
-- reason 1 is about the record or the book, and not about a step
first_reason : (b : Book) → Refused b b (refusal 1)
first_reason b = record { reason = λ (z : ◌≡◌ {A = ℕ} 1 0). omega arith; number = refl; same = refl }

-- a record is a done step's, or refused
pub recorded : (b : Book) (bytes : List ℕ) → Done b bytes ⊎ Refused b (record_book b bytes) (record_answer b bytes)
unfolding record_book record_answer decoded_book decoded_answer answer_of
recorded b bytes = with-book (usable b) refl
  where
    step : (s : Step) → decode_of bytes ≡ Some s → usable b ≡ true → Dec (reason_of b s ≡ 0)
        → Done b bytes ⊎ Refused b (record_book b bytes) (record_answer b bytes)
    step s e u (yes r) = inl (record { step = s; decoded = e; usable_book = u; reason = r; answer = rw (u, e, r); book = rw (u, e) })
    step s e u (no r) = inr (rw (u, e) (refused b s r))

    decoded : (d : Option Step) → decode_of bytes ≡ d → usable b ≡ true → Done b bytes ⊎ Refused b (record_book b bytes) (record_answer b bytes)
    decoded (Some s) e u = step s e u (ℕ_discrete (reason_of b s) 0)
    decoded None e u = inr (rw (u, e) (first_reason b))

    with-book : (u : Bool) → usable b ≡ u → Done b bytes ⊎ Refused b (record_book b bytes) (record_answer b bytes)
    with-book true u = decoded (decode_of bytes) refl u
    with-book false u = inr (rw u (first_reason b))

-- what holds of the book, and of what each done step that the record can be leaves, holds after the record
pub by_record : (P : Book → Type 0) (b : Book) (bytes : List ℕ) → ((d : Done b bytes) → P (book_of b d.step)) → P b → P (record_book b bytes)
by_record P b bytes h k =
    ⊎_elim (λ (d : Done b bytes). rw d.book (h d)) (λ (r : Refused b (record_book b bytes) (record_answer b bytes)). rw r.same k) (recorded b bytes)

-- a done record alters only the places in its step's row
pub frame_record : (b : Book) (bytes : List ℕ) (d : Done b bytes) → May d.step b (record_book b bytes)
frame_record b bytes d = rw d.book (frame b d.step d.reason)

-- ---- the places
-- they are the whole book: two books that agree at each, in their lengths, in the minute of the last step and in the number given are one
pub whole : (b b' : Book) → SameLengths b b' → b'.month.last ≡ b.month.last → b'.month.given ≡ b.month.given
    → ((x : Place) → Same x b b') → b' ≡ b
whole b b' l t g h = λ i. record { month = months i; accounts = accounts i; levels = levels i; ledger = ledger i }
  where
    windows : b'.month.windows ≡ b.month.windows
    windows =
        ext_get_or no_window b'.month.windows b.month.windows l.windows
        (λ k _ i. record { opening = h (in_window k opening) i; closing = h (in_window k closing) i })

    months : b'.month ≡ b.month
    months = λ i. record { days = h (in_month days) i; price = h (in_month price) i; last = t i; given = g i; windows = windows i }

    accounts : b'.accounts ≡ b.accounts
    accounts =
        ext_get_or no_account b'.accounts b.accounts l.accounts
        (λ p _ i. record {
          roles = h (in_account p roles) i;
          requirement = h (in_account p requirement) i;
          margin = record { figure = h (in_account p figure) i; net = h (in_account p net) i };
        })

    levels : b'.levels ≡ b.levels
    levels = ext_get_or 0 b'.levels b.levels l.levels (λ k _. h (in_levels k))

    ledger : b'.ledger ≡ b.ledger
    ledger =
        ext_get_or no_allocation b'.ledger b.ledger l.ledger
        (λ k _ i. record {
          generator = h (in_ledger k generator) i;
          customer = h (in_ledger k customer) i;
          quantity = h (in_ledger k quantity) i;
          status = h (in_ledger k status) i;
        })

-- each level has a place of its own
pub own_place : (p kind day p' kind' day' : ℕ) → 1 ≤ kind → kind ≤ 4 → 1 ≤ kind' → kind' ≤ 4 → 1 ≤ day → day ≤ most_days → 1 ≤ day' → day' ≤ most_days
    → level_place p kind day ≡ level_place p' kind' day' → (p ≡ p') × (kind ≡ kind') × (day ≡ day')
own_place p kind day p' kind' day' h1 h2 h3 h4 h5 h6 h7 h8 e =
    let one : p ≡ p' = omega arith in
    let two : kind ≡ kind' = omega arith in
    (one, two, omega arith)
