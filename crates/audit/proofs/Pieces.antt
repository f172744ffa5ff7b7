-- Following a history in pieces is following it whole (`in_pieces`): the book after k and then m records is the book after k + m, and so is what stands
-- for each quantity. Assumes nothing.
use mathlib.Core.Path.{◌≡◌, refl, sym, ap, ◌∙◌}
use mathlib.Core.List.{List, ◌++◌}
use Prim.Native.Nat.{ℕ, zero, suc, ◌+◌, ◌*◌, ◌%◌, ◌<◌}
use native.Mathlib.Nat.{add-suc}
use native.Mathlib.Omega.{arith}
use lib.ListN.{length, get_or, take, drop, length-append, length-drop}
use lib.Seq.{take-append-le, drop-append-le, drop-append-add}
use Rattle.std.specs.Prelude.{Option, None}
use Rattle.book.specs.Book.{Book}
use Rattle.book.specs.Run.{record_book, records_of, book_after}
use Rattle.ledger.specs.Running.{records_in}
use Rattle.audit.specs.declared.origin.Put.{Put}
use Rattle.audit.specs.declared.origin.Followed.{Followed}
use Rattle.audit.specs.Following.{book_held, put_after, place_at, put_from, Follows}

module _ (b : Book) (records : ℕ → List ℕ) (k : ℕ) where
  -- the records from k on
  abbrev pub rest : ℕ → List ℕ
  rest i = records (k + i)

  pub book_in_pieces : (m : ℕ) → book_after b records (k + m) ≡ book_after (book_after b records k) rest m
  unfolding book_after
  book_in_pieces zero = let none : k + 0 ≡ k = omega arith in ap (book_after b records) none
  book_in_pieces (suc m) = rw add-suc (ap (λ x. record_book x (records (k + m))) (book_in_pieces m))

  pub put_in_pieces : (done n m : ℕ) (before : Option Put)
      → put_from b records done n (k + m) before ≡ put_from (book_after b records k) rest (done + k) n m (put_from b records done n k before)
  unfolding put_from
  put_in_pieces done n zero before = let none : k + 0 ≡ k = omega arith in ap (λ j. put_from b records done n j before) none
  put_in_pieces done n (suc m) before =
      let here : place_at done (k + m) ≡ place_at (done + k) m = omega arith in
      rw add-suc (λ i. put_after (book_in_pieces m i) (records (k + m)) (here i) (put_in_pieces done n m before i) n)

-- ---- records that are the same leave the same
module _ (b : Book) (records others : ℕ → List ℕ) where
  same_book : (m : ℕ) → ((i : ℕ) → i < m → records i ≡ others i) → book_after b records m ≡ book_after b others m
  unfolding book_after
  same_book zero e = refl
  same_book (suc m) e = λ j. record_book (same_book m (λ i o. e i (omega arith)) j) (e m (omega arith) j)

  same_put : (done n m : ℕ) (before : Option Put) → ((i : ℕ) → i < m → records i ≡ others i) → put_from b records done n m before ≡ put_from b others done n m before
  unfolding put_from
  same_put done n zero before e = refl
  same_put done n (suc m) before e =
      λ j. put_after (same_book m (λ i o. e i (omega arith)) j) (e m (omega arith) j) (place_at done m) (same_put done n m before (λ i o. e i (omega arith)) j) n

-- ---- a file cut between two records
module _ (first second : List ℕ) (whole : length first % 24 ≡ 0) where
  front : (i : ℕ) → i < records_in first → records_of (first ++ second) i ≡ records_of first i
  front i o =
      ap (take 24) (drop-append-le (i * 24) first second (omega arith))
      ∙ take-append-le 24 (drop (i * 24) first) second (omega (arith, length-drop (i * 24) first))

  back : (i : ℕ) → records_of (first ++ second) (records_in first + i) ≡ records_of second i
  back i =
      let from : (records_in first + i) * 24 ≡ length first + i * 24 = omega arith in
      ap (λ n. take 24 (drop n (first ++ second))) from ∙ ap (take 24) (drop-append-add first second (i * 24))

  count : records_in (first ++ second) ≡ records_in first + records_in second
  count = omega (arith, length-append first second)

  -- following the one and then the other is following the file
  pub in_pieces : (b : Book) (done : ℕ) (puts : List (Option Put)) (r r' : Followed) (lv lv' : List ℕ) → Follows b first done puts r lv
      → Follows (book_held r.book lv) second (done + records_in first) r.puts r' lv' → Follows b (first ++ second) done puts r' lv'
  in_pieces b done puts r r' lv lv' f g = record {
    book_is = g.book_is ∙ last;
    long = g.long;
    puts_are = λ i o.
        g.puts_are i o
        ∙ (λ j. put_from (here j) (records_of second) (done + k) (suc i) m ((f.puts_are i o ∙ sym (same_put b file (records_of first) done (suc i) k (get_or puts i None) front)) j))
        ∙ sym (same_put (book_after b file k) (rest b file k) (records_of second) (done + k) (suc i) m (put_from b file done (suc i) k (get_or puts i None)) (λ n _. back n))
        ∙ sym (put_in_pieces b file k done (suc i) m (get_or puts i None))
        ∙ ap (λ n. put_from b file done (suc i) n (get_or puts i None)) (sym count);
  }
    where
      k : ℕ
      k = records_in first

      m : ℕ
      m = records_in second

      file : ℕ → List ℕ
      file = records_of (first ++ second)

      here : book_held r.book lv ≡ book_after b file k
      here = f.book_is ∙ sym (same_book b file (records_of first) k front)

      last : book_after (book_held r.book lv) (records_of second) m ≡ book_after b file (records_in (first ++ second))
      last =
          (λ j. book_after (here j) (records_of second) m)
          ∙ sym (same_book (book_after b file k) (rest b file k) (records_of second) m (λ n _. back n))
          ∙ sym (book_in_pieces b file k m)
          ∙ ap (book_after b file) (sym count)
