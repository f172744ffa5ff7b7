-- A history followed record by record: the piece that comes off what is left is the next record (`piece`) and leaves the records after it (`beyond`), and
-- what one record leaves of the book so far is what one record more leaves of the first book (`one_more`). Assumes nothing.
use mathlib.Core.Path.{◌≡◌, sym, ap, subst, ◌∙◌}
use mathlib.Core.List.{List, [], ◌++◌, append-nil}
use Prim.Native.Nat.{ℕ, suc, ◌+◌, ◌*◌, ◌≤◌, min}
use native.Mathlib.Decide.{dec_le}
use native.Mathlib.Numerals.{add-one}
use native.Mathlib.Omega.{arith}
use lib.ListN.{length, get_or, take, drop, length-append}
use lib.Seq.{take_at, take_all, drop_at, drop-drop}
use Rattle.std.specs.Prelude.{Option, None}
use Rattle.std.proofs.lemmas.List.{nil_from_length, drop_all}
use Rattle.book.specs.Book.{Book}
use Rattle.book.specs.Run.{record_book, records_of, book_after}
use Rattle.audit.specs.declared.origin.Put.{Put}
use Rattle.audit.specs.declared.origin.Followed.{Followed}
use Rattle.audit.specs.Following.{book_held, put_after, place_at, put_from, FollowsTo}
use Rattle.audit.specs.Putting.{FollowsOne}

-- ---- the file: a piece off what is left from record i on, of 24 bytes or of all that is left
module _ (history : List ℕ) (i : ℕ) (bytes rest : List ℕ) (off : drop (i * 24) history ≡ bytes ++ rest) (long : length bytes ≡ min 24 (length (drop (i * 24) history))) where
  sizes : length (drop (i * 24) history) ≡ length bytes + length rest
  sizes = ap length off ∙ length-append bytes rest

  pub piece : bytes ≡ records_of history i
  piece = by (dec_le 24 (length bytes + length rest))
    where
      by : Dec (24 ≤ length bytes + length rest) → bytes ≡ take 24 (drop (i * 24) history)
      by (yes o) = sym (ap (take 24) off ∙ take_at bytes rest 24 (omega (arith, long, sizes)))
      by (no o) =
          let none : rest ≡ [] = nil_from_length rest (omega (arith, long, sizes)) in
          sym (take_all 24 (drop (i * 24) history) (omega (arith, sizes)) ∙ off ∙ ap (λ l. bytes ++ l) none ∙ append-nil bytes)

  pub beyond : rest ≡ drop ((i + 1) * 24) history
  beyond = by (dec_le 24 (length bytes + length rest)) ∙ drop-drop 24 (i * 24) history ∙ ap (λ n. drop n history) next
    where
      next : i * 24 + 24 ≡ (i + 1) * 24
      next = omega arith

      by : Dec (24 ≤ length bytes + length rest) → rest ≡ drop 24 (drop (i * 24) history)
      by (yes o) = sym (ap (drop 24) off ∙ drop_at bytes rest 24 (omega (arith, long, sizes)))
      by (no o) = nil_from_length rest (omega (arith, long, sizes)) ∙ sym (drop_all 24 (drop (i * 24) history) (omega (arith, sizes)))

-- ---- the book
module _ (b : Book) (records : ℕ → List ℕ) (done : ℕ) (puts : List (Option Put)) where
  -- no record
  pub none : (r : Followed) (lv : List ℕ) → b ≡ book_held r.book lv → r.puts ≡ puts → length puts ≡ 256 → FollowsTo b records 0 done puts r lv
  unfolding book_after put_from
  none r lv e p h = record { book_is = sym e; long = ap length p ∙ h; puts_are = λ i _. ap (λ l. get_or l i None) p }

  -- so many, said otherwise
  pub as_many : {i m : ℕ} {r : Followed} {lv : List ℕ} → i ≡ m → FollowsTo b records i done puts r lv → FollowsTo b records m done puts r lv
  as_many {r = r} {lv = lv} e f = subst (λ n. FollowsTo b records n done puts r lv) e f

  -- one record more
  pub one_more : {i place : ℕ} {bytes : List ℕ} {so_far r : Followed} {lv lv' : List ℕ} → FollowsTo b records i done puts so_far lv → bytes ≡ records i → place ≡ place_at done i
      → FollowsOne (book_held so_far.book lv) bytes place so_far.puts r lv' → FollowsTo b records (i + 1) done puts r lv'
  unfolding book_after put_from
  one_more {i} {place} {bytes} {so_far} {r} {lv} {lv'} f e p o = rw add-one (record {
    book_is = o.book_is ∙ (λ j. record_book (f.book_is j) (e j));
    long = o.long;
    puts_are = λ k h. o.each k h ∙ (λ j. put_after (f.book_is j) (e j) (p j) (f.puts_are k h j) (suc k));
  })
