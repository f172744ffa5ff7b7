-- No reason applies to a step that answers 0: the answer is the lowest number that applies, and each of the numbers is above 0. Assumes nothing.
use mathlib.Core.Path.{◌≡◌, refl}
use mathlib.Core.Bool.{Bool, true, false, cond}
use Prim.Native.Nat.{ℕ, suc}
use native.Mathlib.Omega.{arith}
use borrow.Author.Tests.{not-false}
use Rattle.record.specs.declared.Step.{Step}
use Rattle.book.specs.Book.{Book}
use Rattle.book.specs.Reasons.{reason_of, reason2, reason3, reason4, reason5, reason6, in_range, reason7, reason8, reason9, reason10, reason11, reason12, reason13, reason14, reason15}

-- the table of reasons, none of which applies
pub record NoReason (b : Book) (s : Step) : Type 0 where
  pub no2 : reason2 b s ≡ false
  pub no3 : reason3 b s ≡ false
  pub no4 : reason4 b s ≡ false
  pub no5 : reason5 b s ≡ false
  pub no6 : reason6 b s ≡ false
  pub no7 : in_range b s ≡ true
  pub no8 : reason8 b s ≡ false
  pub no9 : reason9 b s ≡ false
  pub no10 : reason10 b s ≡ false
  pub no11 : reason11 b s ≡ false
  pub no12 : reason12 b s ≡ false
  pub no13 : reason13 b s ≡ false
  pub no14 : reason14 b s ≡ false
  pub no15 : reason15 b s ≡ false

-- a reason that does not apply, and the answer of the later ones
pub record Later (t : Bool) (r : ℕ) : Type 0 where
  pub no : t ≡ false
  pub later : r ≡ 0

pub pass : (t : Bool) (k r : ℕ) → cond t (suc k) r ≡ 0 → Later t r
pass true k r e = absurd (omega arith)
pass false k r e = record { no = refl; later = e }

pub no_reason : (b : Book) (s : Step) → reason_of b s ≡ 0 → NoReason b s
unfolding reason_of
no_reason b s e =
    let p2 = pass (reason2 b s) 1 _ e in
    let p3 = pass (reason3 b s) 2 _ p2.later in
    let p4 = pass (reason4 b s) 3 _ p3.later in
    let p5 = pass (reason5 b s) 4 _ p4.later in
    let p6 = pass (reason6 b s) 5 _ p5.later in
    let p7 = pass (reason7 b s) 6 _ p6.later in
    let p8 = pass (reason8 b s) 7 _ p7.later in
    let p9 = pass (reason9 b s) 8 _ p8.later in
    let p10 = pass (reason10 b s) 9 _ p9.later in
    let p11 = pass (reason11 b s) 10 _ p10.later in
    let p12 = pass (reason12 b s) 11 _ p11.later in
    let p13 = pass (reason13 b s) 12 _ p12.later in
    let p14 = pass (reason14 b s) 13 _ p13.later in
    let p15 = pass (reason15 b s) 14 _ p14.later in
    record {
      no2 = p2.no;
      no3 = p3.no;
      no4 = p4.no;
      no5 = p5.no;
      no6 = p6.no;
      no7 = not-false (in_range b s) p7.no;
      no8 = p8.no;
      no9 = p9.no;
      no10 = p10.no;
      no11 = p11.no;
      no12 = p12.no;
      no13 = p13.no;
      no14 = p14.no;
      no15 = p15.no;
    }
