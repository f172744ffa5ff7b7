-- The settlement desk's first question, as a function answers it (`Follows`): the book after a history, and of each allocation the last done step that
-- put its quantity, by place, kind and minute. `record_puts` says which step puts which (book, `Origin`). Assumes nothing.
use Rattle.std.specs.Prelude.{◌≡◌, cond, List, ℕ, zero, suc, ◌+◌, ◌-◌, ◌^◌, ◌<◌, min, length, get_or, Option, Some, None}
use Rattle.record.specs.declared.Step.{Step}
use Rattle.record.specs.Record.{decode_of}
use Rattle.book.specs.declared.Whole.{Whole}
use Rattle.book.specs.Book.{Book}
use Rattle.book.specs.Kinds.{kind_of, time_of}
use Rattle.book.specs.Run.{records_of, book_after}
use Rattle.book.specs.Origin.{record_puts}
use Rattle.sound.specs.Check.{book_from}
use Rattle.ledger.specs.Running.{records_in}
use Rattle.audit.specs.declared.origin.Put.{Put}
use Rattle.audit.specs.declared.origin.Followed.{Followed}

-- the book that is held whole, beside its levels
abbrev pub book_held : Whole → List ℕ → Book
book_held w lv = book_from w.month w.accounts lv w.ledger

-- a step as the one that put a quantity, at a place of the history
abbrev pub put_of : Step → ℕ → Put
put_of s place = record { place = place; kind = kind_of s; minute = time_of s }

-- the step that a record says, as that one; none where it says no step
abbrev pub put_in : ℕ → Option Step → Option Put
put_in place (Some s) = Some (put_of s place)
put_in place None = None

-- what stands for allocation n after a record: its step where it was done and puts the quantity, else what stood there
unfoldable pub put_after : Book → List ℕ → ℕ → Option Put → ℕ → Option Put
put_after b bytes place before n = cond (record_puts b bytes n) (put_in place (decode_of bytes)) before

-- the printed place of record i, where so many were done before; there is no place past the last that 64 bits hold
abbrev pub place_at : ℕ → ℕ → ℕ
place_at done i = min (done + suc i) (2 ^ 64 - 1)

-- what stands for allocation n after the first m records
unfoldable pub put_from : Book → (ℕ → List ℕ) → ℕ → ℕ → ℕ → Option Put → Option Put
put_from b records done n zero before = before
put_from b records done n (suc m) before = put_after (book_after b records m) (records m) (place_at done m) (put_from b records done n m before) n

-- what following the first m records leaves: the book after them, and for each allocation what stands for it
pub record FollowsTo (b : Book) (records : ℕ → List ℕ) (m done : ℕ) (puts : List (Option Put)) (r : Followed) (lv : List ℕ) : Type 0 where
  pub book_is : book_held r.book lv ≡ book_after b records m
  pub long : length r.puts ≡ 256
  pub puts_are : (i : ℕ) → i < 256 → get_or r.puts i None ≡ put_from b records done (suc i) m (get_or puts i None)

-- every record of a history
abbrev pub Follows : Book → List ℕ → ℕ → List (Option Put) → Followed → List ℕ → Type 0
Follows b history done puts r lv = FollowsTo b (records_of history) (records_in history) done puts r lv
