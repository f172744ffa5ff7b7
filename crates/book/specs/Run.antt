-- What a record gives on a lent book, and what a run of records from a book gives: the answer to each, and the book after each. Assumes nothing.
use Rattle.std.specs.Prelude.{Bool, cond, ◌&&◌, List, ℕ, zero, suc, ◌*◌, take, drop, Option, Some, None}
use Rattle.record.specs.Record.{decode_of}
use Rattle.record.specs.declared.Step.{Step}
use Rattle.book.specs.declared.Answer.{Answer}
use Rattle.book.specs.Book.{Book}
use Rattle.book.specs.Sound.{right_lengths, sound}
use Rattle.book.specs.Steps.{refusal, answer_of, book_of}

-- 1: record not 24 bytes, kind unknown, unused field not zero
unfoldable pub decoded_answer : Book → Option Step → Answer
decoded_answer b (Some s) = answer_of b s
decoded_answer b None = refusal 1

unfoldable pub decoded_book : Book → Option Step → Book
decoded_book b (Some s) = book_of b s
decoded_book b None = b

-- 1: lent table of wrong length, or book not sound
abbrev pub usable : Book → Bool
usable b = right_lengths b && sound b

-- the answer to a record, and the book afterwards
unfoldable pub record_answer : Book → List ℕ → Answer
record_answer b bytes = cond (usable b) (decoded_answer b (decode_of bytes)) (refusal 1)

unfoldable pub record_book : Book → List ℕ → Book
record_book b bytes = cond (usable b) (decoded_book b (decode_of bytes)) b

-- ---- a run: the records stand at places 0, 1, 2 ..
-- the book after the first n records
unfoldable pub book_after : Book → (ℕ → List ℕ) → ℕ → Book
book_after b records zero = b
book_after b records (suc n) = record_book (book_after b records n) (records n)

-- the answer to the record at place n
unfoldable pub answer_at : Book → (ℕ → List ℕ) → ℕ → Answer
answer_at b records n = record_answer (book_after b records n) (records n)

-- the records of a file of bytes, 24 each; a short last piece is one record
abbrev pub records_of : List ℕ → ℕ → List ℕ
records_of file n = take 24 (drop (n * 24) file)
