-- What `follow` answers is the origin of each quantity (`answered`): the last record that puts a quantity stands for it from there on, and nothing later
-- does, so that book's `origin`, `only_origin` and `no_other` speak of the function's result. Assumes nothing.
use mathlib.Core.Path.{◌≡◌, refl, sym, ap, ◌∙◌}
use mathlib.Core.Logic.{⊎_elim}
use mathlib.Core.Bool.{Bool, true, false}
use mathlib.Core.List.{List}
use Prim.Native.Nat.{ℕ, zero, suc, ◌^◌, ◌≤◌, ◌<◌}
use native.Mathlib.Nat.{eq-or-lt_of_le}
use native.Mathlib.Numerals.{add-one}
use native.Mathlib.Omega.{arith}
use lib.ListN.{get_or, replicate}
use Rattle.std.specs.Prelude.{Option, Some, None}
use Rattle.std.specs.Option.{option_map, unwrap_or}
use Rattle.record.specs.Record.{decode_of}
use Rattle.book.specs.Book.{Book, fresh}
use Rattle.book.specs.Kinds.{kind_of, time_of}
use Rattle.book.specs.Run.{records_of, book_after, answer_at}
use Rattle.book.specs.Origin.{decoded_puts, record_puts, puts_at, origin_of, Origin}
use Rattle.book.proofs.Tables.{blank}
use Rattle.book.proofs.Put.{put}
use Rattle.book.proofs.Origin.{origin}
use Rattle.ledger.specs.Running.{records_in}
use Rattle.audit.specs.declared.origin.Put.{Put}
use Rattle.audit.specs.declared.origin.Followed.{Followed}
use Rattle.audit.specs.Following.{put_of, put_in, put_after, place_at, put_from, Follows}

-- the place of what stands for a quantity, and 0 where nothing does
abbrev pub place_of : Option Put → ℕ
place_of o = unwrap_or (option_map (λ (p : Put). p.place) o) 0

module _ (b : Book) (records : ℕ → List ℕ) (n : ℕ) where
  -- a record that puts the quantity stands for it
  newest : (done i : ℕ) (before : Option Put) → puts_at b records n i ≡ true → put_from b records done n (suc i) before ≡ put_in (place_at done i) (decode_of (records i))
  unfolding put_from put_after
  newest done i before e = rw e

  -- one that does not leaves what stands there
  older : (done i : ℕ) (before : Option Put) → puts_at b records n i ≡ false → put_from b records done n (suc i) before ≡ put_from b records done n i before
  unfolding put_from put_after
  older done i before e = rw e

  -- the origin's record puts it
  puts_it : {m k : ℕ} (o : Origin b records n m k) → puts_at b records n o.before ≡ true
  unfolding answer_at record_puts decoded_puts
  puts_it o = rw (o.done, o.decoded) o.puts_it

  -- the place is that of the origin, and 0 where there is none
  pub place_is : (m : ℕ) → m < 2 ^ 64 → place_of (put_from b records 0 n m None) ≡ origin_of b records n m
  unfolding put_from origin_of
  place_is zero l = refl
  place_is (suc m) l = by (puts_at b records n m) refl (place_is m (omega arith))
    where
      by : (t : Bool) → puts_at b records n m ≡ t → place_of (put_from b records 0 n m None) ≡ origin_of b records n m
          → place_of (put_from b records 0 n (suc m) None) ≡ origin_of b records n (suc m)
      by true e so_far =
          let d = (put (book_after b records m) (records m) n e).0.decoded in
          let here : place_at 0 m ≡ suc m = omega arith in
          ap place_of (newest 0 m None e) ∙ rw (d, e) here
      by false e so_far = ap place_of (older 0 m None e) ∙ rw e so_far

  -- none after the origin puts it, and its step stands there
  stands : (m k : ℕ) → k ≤ m → ((j : ℕ) → k ≤ j → j < m → puts_at b records n j ≡ false) → put_from b records 0 n m None ≡ put_from b records 0 n k None
  stands zero k l h = let none : 0 ≡ k = omega arith in ap (λ j. put_from b records 0 n j None) none
  stands (suc m) k l h =
      ⊎_elim
      (λ (last : k ≡ suc m). ap (λ j. put_from b records 0 n j None) (sym last))
      (λ (earlier : k < suc m). older 0 m None (h m (omega arith) (omega arith)) ∙ stands m k (omega arith) (λ j a z. h j a (omega arith)))
      (eq-or-lt_of_le l)

-- what stands for a quantity is a step, its origin, with the kind and the minute of the origin's step
pub record Answered (records : ℕ → List ℕ) (n m : ℕ) (o : Option Put) : Type 0 where
  pub put : Put
  pub is : o ≡ Some put
  pub from : Origin fresh records n m put.place
  pub kind : put.kind ≡ kind_of from.step
  pub minute : put.minute ≡ time_of from.step

-- for any run from the fresh book, where no place passes 64 bits
pub origin_stands : (records : ℕ → List ℕ) (m n : ℕ) → m < 2 ^ 64 → 1 ≤ n → n ≤ (book_after fresh records m).month.given → Answered records n m (put_from fresh records 0 n m None)
origin_stands records m n l h g =
    let o = origin records m n h g in
    let place : place_at 0 o.before ≡ origin_of fresh records n m = omega (arith, o.place, o.among) in
    let is : put_from fresh records 0 n m None ≡ Some (put_of o.step (origin_of fresh records n m)) =
    stands fresh records n m (origin_of fresh records n m) o.among (λ j a z. (o.later j a z).0)
    ∙ ap (λ k. put_from fresh records 0 n k None) (o.place ∙ add-one o.before)
    ∙ newest fresh records n 0 o.before None (puts_it fresh records n o)
    ∙ (λ i. put_in (place i) (o.decoded i)) in
    record { put = put_of o.step (origin_of fresh records n m); is = is; from = o; kind = refl; minute = refl }

-- ---- what the function answers, of the fresh book and nothing put
pub answered : (history : List ℕ) (r : Followed) (lv : List ℕ) → Follows fresh history 0 (replicate 256 None) r lv → records_in history < 2 ^ 64
    → (i : ℕ) → i < r.book.month.given → i < 256 → Answered (records_of history) (suc i) (records_in history) (get_or r.puts i None)
answered history r lv f l i g o =
    let given : suc i ≤ (book_after fresh (records_of history) (records_in history)).month.given = omega (arith, ap (λ x. x.month.given) f.book_is) in
    rw (f.puts_are i o, blank {A = Option Put} 256 i None) (origin_stands (records_of history) (records_in history) (suc i) l (omega arith) given)
