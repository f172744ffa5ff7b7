-- A run from the fresh book never meets an unsound one: each record leaves a usable book usable, so that every record of the run is answered by its step,
-- and none is refused for the book. Assumes nothing.
use mathlib.Core.Path.{◌≡◌}
use mathlib.Core.Bool.{true}
use mathlib.Core.List.{List}
use Prim.Native.Nat.{ℕ, zero, suc}
use Rattle.std.specs.Prelude.{Option, Some, None}
use Rattle.record.specs.Record.{decode_of}
use Rattle.record.specs.declared.Step.{Step}
use Rattle.book.specs.Book.{Book, fresh}
use Rattle.book.specs.Run.{decoded_answer, decoded_book, usable, record_answer, record_book, book_after, answer_at}
use Rattle.book.proofs.Sound.{fresh-sound}
use Rattle.book.proofs.Keeps.{keeps}

decoded_keeps : (b : Book) (d : Option Step) → usable b ≡ true → usable (decoded_book b d) ≡ true
unfolding decoded_book
decoded_keeps b (Some s) u = keeps b s u
decoded_keeps b None u = u

-- ---- a record on a usable book
module _ (b : Book) (bytes : List ℕ) (u : usable b ≡ true) where
  pub answered : record_answer b bytes ≡ decoded_answer b (decode_of bytes)
  unfolding record_answer
  answered = rw u

  pub left : record_book b bytes ≡ decoded_book b (decode_of bytes)
  unfolding record_book
  left = rw u

  pub record_keeps : usable (record_book b bytes) ≡ true
  record_keeps = rw left (decoded_keeps b (decode_of bytes) u)

-- ---- a run from a usable book
module _ (b : Book) (u : usable b ≡ true) (records : ℕ → List ℕ) where
  pub after_keeps : (n : ℕ) → usable (book_after b records n) ≡ true
  unfolding book_after
  after_keeps zero = u
  after_keeps (suc n) = record_keeps (book_after b records n) (records n) (after_keeps n)

  pub after_answers : (n : ℕ) → answer_at b records n ≡ decoded_answer (book_after b records n) (decode_of (records n))
  unfolding answer_at
  after_answers n = answered (book_after b records n) (records n) (after_keeps n)

  pub after_writes : (n : ℕ) → book_after b records (suc n) ≡ decoded_book (book_after b records n) (decode_of (records n))
  unfolding book_after
  after_writes n = left (book_after b records n) (records n) (after_keeps n)

-- ---- and from the fresh one
pub run_keeps : (records : ℕ → List ℕ) (n : ℕ) → usable (book_after fresh records n) ≡ true
run_keeps = after_keeps fresh fresh-sound

pub run_answers : (records : ℕ → List ℕ) (n : ℕ) → answer_at fresh records n ≡ decoded_answer (book_after fresh records n) (decode_of (records n))
run_answers = after_answers fresh fresh-sound

pub run_writes : (records : ℕ → List ℕ) (n : ℕ) → book_after fresh records (suc n) ≡ decoded_book (book_after fresh records n) (decode_of (records n))
run_writes = after_writes fresh fresh-sound
