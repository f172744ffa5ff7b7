-- What is measured of a done OPERATOR AMENDS is the least that whole thousandths allow (`measured_cut`): the totals of a sound book are comparable, and
-- the new quantities are the shares that book's `cut_promised` is about. Assumes nothing.
use mathlib.Core.Path.{◌≡◌, refl, sym, ap, ◌∙◌}
use mathlib.Core.Logic.{⊎_elim}
use mathlib.Core.Bool.{true}
use mathlib.Core.List.{List}
use Prim.Native.Nat.{ℕ, zero, suc, ◌≤◌, ◌<◌}
use native.Mathlib.Nat.{eq-or-lt_of_le, le_of_suc-le-suc}
use native.Mathlib.Omega.{arith}
use borrow.Author.Tests.{le-leb, not-false}
use lib.ListN.{length, length-map}
use Rattle.std.specs.Prelude.{Some}
use Rattle.units.specs.declared.Minutes.{Minutes}
use Rattle.share.specs.Totals.{at, total, largest}
use Rattle.share.specs.Nearness.{miss, distance, farthest, SharesOut}
use Rattle.record.specs.declared.Step.TheVariants.{OperatorAmends}
use Rattle.record.specs.Record.{decode_of}
use Rattle.book.specs.Book.{Book, account, is_open, is_generator, most_quantity, participants}
use Rattle.book.specs.Words.{accepted_in, accepted, tradeable}
use Rattle.book.specs.Reasons.{reason_of, reason2, reason6}
use Rattle.book.specs.Steps.{book_of}
use Rattle.book.specs.Run.{usable, record_answer, record_book}
use Rattle.book.specs.Frame.{Refused, Done}
use Rattle.book.proofs.Sums.{total-map}
use Rattle.book.proofs.Sound.{Opened, opened_of}
use Rattle.book.proofs.Bounds.{role_below, tradeable_most, accepted_most}
use Rattle.book.proofs.NoReason.{no_reason}
use Rattle.book.proofs.Frame.{recorded}
use Rattle.book.proofs.CutPromise.{CutPromised, cut_promised}
use Rattle.audit.specs.declared.nearness.Measured.{Measured}
use Rattle.audit.specs.Measuring.{quantities_of, comparable, Measures}

-- the answer to the desk, of what is measured of the cut of generator g
pub record CutMeasured (b : Book) (g : ℕ) (r : Measured) : Type 0 where
  pub accepted_is : r.accepted ≡ accepted b g
  -- no list of whole thousandths with the tradeable credits as its total has a smaller sum of distances
  pub least : (y : List ℕ) → SharesOut (quantities_of g b.ledger) (tradeable b g) y → r.sum ≤ distance (quantities_of g b.ledger) (tradeable b g) y
  -- and each has someone as far from its exact share: nobody was cut further than whole thousandths require
  pub nobody_further : (i : ℕ) → i < 256 → (y : List ℕ) → SharesOut (quantities_of g b.ledger) (tradeable b g) y → at r.each i ≤ farthest (quantities_of g b.ledger) (tradeable b g) y

-- one of the first n is at most the largest of them
among : (n : ℕ) (f : ℕ → ℕ) (i : ℕ) → i < n → f i ≤ largest n f
unfolding largest
among zero f i o = omega arith
among (suc n) f i o =
    ⊎_elim
    (λ (last : i ≡ n). omega (arith, ap f last))
    (λ (earlier : i < n). omega (arith, among n f i earlier))
    (eq-or-lt_of_le (le_of_suc-le-suc o))

-- a done record of an OPERATOR AMENDS, on a book that can be used
pub record Cuts (b : Book) (bytes : List ℕ) (g : ℕ) (t : Minutes) : Type 0 where
  pub usable_book : usable b ≡ true
  pub reason : reason_of b (OperatorAmends g t) ≡ 0
  pub book : record_book b bytes ≡ book_of b (OperatorAmends g t)

cuts : (b : Book) (bytes : List ℕ) (g : ℕ) (t : Minutes) → decode_of bytes ≡ Some (OperatorAmends g t) → (record_answer b bytes).reason ≡ 0 → Cuts b bytes g t
cuts b bytes g t e z = ⊎_elim done (λ (r : Refused b (record_book b bytes) (record_answer b bytes)). absurd (r.reason z)) (recorded b bytes)
  where
    done : Done b bytes → Cuts b bytes g t
    done d =
        let is : d.step ≡ OperatorAmends g t = cc d.decoded in
        record { usable_book = d.usable_book; reason = ap (reason_of b) (sym is) ∙ d.reason; book = d.book ∙ ap (book_of b) is }

module _ (b : Book) (bytes : List ℕ) (g : ℕ) (t : Minutes) (k : Cuts b bytes g t) where
  -- the quantities before and after
  abbrev w : List ℕ
  w = quantities_of g b.ledger

  abbrev x : List ℕ
  x = quantities_of g (record_book b bytes).ledger

  promised : CutPromised b g (record_book b bytes)
  promised = rw k.book (cut_promised b g t k.reason)

  opened : Opened b
  unfolding reason2
  opened = opened_of b k.usable_book (not-false (is_open b) (no_reason b (OperatorAmends g t) k.reason).no2)

  below : g < participants
  unfolding reason6
  below = role_below opened is_generator refl g (not-false (is_generator (account b g)) (no_reason b (OperatorAmends g t) k.reason).no6)

  old : total w ≡ accepted b g
  old = total-map (accepted_in g) b.ledger

  fair : comparable w x ≡ true
  unfolding comparable
  fair =
      rw (le-leb (total w) most_quantity (omega (arith, old, accepted_most opened g below)))
      (le-leb (total x) most_quantity (omega (arith, promised.promise.nearest.shares.whole, tradeable_most opened g)))

  long : length w ≡ 256
  long = length-map b.ledger (accepted_in g) ∙ opened.lengths.ledger

-- for what `misses` answers of the ledger before and after such a record
pub measured_cut : (b : Book) (bytes : List ℕ) (g : ℕ) (t : Minutes) (r : Measured) → decode_of bytes ≡ Some (OperatorAmends g t) → (record_answer b bytes).reason ≡ 0
    → Measures (quantities_of g b.ledger) (tradeable b g) (quantities_of g (record_book b bytes).ledger) r → CutMeasured b g r
unfolding farthest
measured_cut b bytes g t r e z m =
    let k = cuts b bytes g t e z in
    let f = fair b bytes g t k in
    let p = (promised b bytes g t k).promise in
    record {
      accepted_is = rw f at m.accepted_is ∙ old b bytes g t k;
      least = λ y s. omega (arith, rw f at m.sum_is, p.nearest.near y s);
      nobody_further = λ i o y s. omega (arith, rw f at (m.each_is i o), among (length (w b bytes g t k)) (miss (w b bytes g t k) (tradeable b g) (x b bytes g t k)) i (omega (arith, long b bytes g t k)), p.worst y s);
    }
