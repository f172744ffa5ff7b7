-- Each quantity in the ledger has an origin, and `origin_of` is its place (`origin`): going through the run, a record that puts the quantity is the
-- origin from there on, and one that does not leaves quantity and origin as they were; the SUBMIT that gave the number was the first. No other place
-- has these properties (`only_origin`). Assumes nothing.
use mathlib.Core.Path.{◌≡◌, refl, sym, ap, ◌∙◌}
use mathlib.Core.Logic.{⊎_elim}
use mathlib.Core.Bool.{Bool, true, false}
use mathlib.Core.List.{List}
use Prim.Native.Nat.{ℕ, zero, suc, ◌+◌, ◌≤◌, ◌<◌}
use native.Mathlib.Nat.{eq-or-lt_of_le}
use native.Mathlib.Numerals.{add-one}
use native.Mathlib.Omega.{arith}
use Rattle.book.specs.Book.{Book, fresh}
use Rattle.book.specs.Run.{book_after, answer_at}
use Rattle.book.specs.Origin.{puts_at, origin_of, quantity_after, decoded_puts, record_puts, Origin}
use Rattle.book.proofs.Put.{put, unput}
use Rattle.book.proofs.Given.{put_or_given}

module _ (b : Book) (records : ℕ → List ℕ) (n : ℕ) where
  -- a record that does not put the quantity leaves it
  pub no_other : (i : ℕ) → 1 ≤ n → puts_at b records n i ≡ false → quantity_after b records n (suc i) ≡ quantity_after b records n i
  unfolding book_after
  no_other i h e = unput (book_after b records i) (records i) n h e

  -- the last record puts it: it is the origin
  newest : (m : ℕ) → puts_at b records n m ≡ true → Origin b records n (suc m) (suc m)
  unfolding book_after answer_at
  newest m e =
      let (d, p, q) = put (book_after b records m) (records m) n e in
      record {
        before = m;
        place = omega arith;
        among = omega arith;
        done = ap (λ a. a.reason) d.answer;
        step = d.step;
        decoded = d.decoded;
        puts_it = p;
        put = q;
        now = q;
        later = λ i k l. absurd (omega arith);
      }

  -- it does not: the origin stays
  older : (m k : ℕ) → 1 ≤ n → puts_at b records n m ≡ false → Origin b records n m k → Origin b records n (suc m) k
  older m k h e o = record {
    before = o.before;
    place = o.place;
    among = omega (arith, o.among);
    done = o.done;
    step = o.step;
    decoded = o.decoded;
    puts_it = o.puts_it;
    put = o.put;
    now = no_other m h e ∙ o.now;
    later = λ i l u.
        ⊎_elim
        (λ (last : i ≡ m). rw (last, add-one) (e, no_other m h e ∙ o.now ∙ sym o.put))
        (λ (earlier : i < m). o.later i l earlier)
        (eq-or-lt_of_le {n = i} {m = m} (omega arith));
  }

  -- the numbers that the run gives
  pub origin_from : (m : ℕ) → b.month.given < n → n ≤ (book_after b records m).month.given → Origin b records n m (origin_of b records n m)
  unfolding book_after origin_of
  origin_from zero l h = absurd (omega arith)
  origin_from (suc m) l h = last (puts_at b records n m) refl (origin_from m l)
    where
      last : (c : Bool) → puts_at b records n m ≡ c → (n ≤ (book_after b records m).month.given → Origin b records n m (origin_of b records n m))
          → Origin b records n (suc m) (origin_of b records n (suc m))
      last true e o = rw e (newest m e)
      last false e o = rw e (older m (origin_of b records n m) (omega arith) e (o (put_or_given (book_after b records m) (records m) n e h)))

  -- ---- a place with these properties is the one that `origin_of` computes: the last whose record puts the quantity
  origin_puts : (m k : ℕ) (o : Origin b records n m k) → puts_at b records n o.before ≡ true
  unfolding answer_at record_puts decoded_puts
  origin_puts m k o = rw (o.done, o.decoded) o.puts_it

  last_one : (m k i : ℕ) → k ≡ i + 1 → k ≤ m → puts_at b records n i ≡ true
      → ((j : ℕ) → k ≤ j → j < m → puts_at b records n j ≡ false) → k ≡ origin_of b records n m
  unfolding origin_of
  last_one zero k i e h p l = absurd (omega arith)
  last_one (suc m) k i e h p l =
      ⊎_elim
      (λ (last : k ≡ suc m). let it : i ≡ m = omega arith in rw (rw it at p) last)
      (λ (earlier : k < suc m). rw (l m (omega arith) (omega arith)) (last_one m k i e (omega arith) p (λ j a z. l j a (omega arith))))
      (eq-or-lt_of_le h)

  pub only_origin : (m k : ℕ) → Origin b records n m k → k ≡ origin_of b records n m
  only_origin m k o = last_one m k o.before o.place o.among (origin_puts m k o) (λ j a z. (o.later j a z).0)

-- ---- the settlement desk's question, for a run from the fresh book
pub origin : (records : ℕ → List ℕ) (m n : ℕ) → 1 ≤ n → n ≤ (book_after fresh records m).month.given → Origin fresh records n m (origin_of fresh records n m)
unfolding fresh
origin records m n h l = origin_from fresh records n m h l
