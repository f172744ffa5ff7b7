-- Reasons in a row, `first`: as lines of a table (`lines`), and of a chain that comes to 0 each is 0, so that its test has failed (`chain`). By the first
-- reason. Assumes nothing.
use mathlib.Core.Path.{◌≡◌, refl}
use mathlib.Core.Bool.{Bool, true, false, cond, not, not-not}
use Prim.Native.Nat.{ℕ, zero, suc, ◌<◌}
use native.Mathlib.Omega.{arith}
use lib.Dec.{eqb, eqb-suc-zero}
use borrow.Author.Tests.{eqb-true, eqb-false, not-false}
use Rattle.reasons.specs.Chain.{when, first}

-- ---- as lines of a table
pub when-line : (t : Bool) (r : ℕ) → when t r ≡ cond t r 0
unfolding when
when-line t r = refl

pub line_first : (t : Bool) (r x y : ℕ) → eqb r 0 ≡ false → first (cond t r x) y ≡ cond t r (first x y)
unfolding first
line_first true r x y h = rw h
line_first false r x y h = refl

pub none_first : (y : ℕ) → first 0 y ≡ y
unfolding first
none_first y = refl

pub ruleset lines = (when-line, line_first, none_first, not-not)

pub first_first : (x y z : ℕ) → first (first x y) z ≡ first x (first y z)
unfolding first
first_first zero y z = refl
first_first (suc x) y z = simp eqb-suc-zero

-- a test holds or fails
pub either_way : {A : Type 0} (t : Bool) → (t ≡ true → A) → (t ≡ false → A) → A
either_way true f g = f refl
either_way false f g = g refl

-- ---- a chain that comes to none
-- of two reasons that come to none neither applies
first_passes : (x y : ℕ) → first x y ≡ 0 → (x ≡ 0) × (y ≡ 0)
unfolding first
first_passes x y = by (eqb x 0) refl
  where
    by : (t : Bool) → eqb x 0 ≡ t → cond t y x ≡ 0 → (x ≡ 0) × (y ≡ 0)
    by true e p = (eqb-true x 0 e, p)
    by false e p = absurd (eqb-false x 0 e p)

pub earlier : (x y : ℕ) → first x y ≡ 0 → x ≡ 0
earlier x y p = (first_passes x y p).0

pub later : (x y : ℕ) → first x y ≡ 0 → y ≡ 0
later x y p = (first_passes x y p).1

-- for `search`, which runs them forwards: any reason of a chain
pub ruleset chain = (earlier, later)

-- a reason that does not apply: its test fails
pub when_passes : (t : Bool) (r : ℕ) → 0 < r → when t r ≡ 0 → t ≡ false
unfolding when
when_passes true r h p = absurd (omega arith)
when_passes false r h p = refl

-- or holds, where the reason is for want of it
pub unless_passes : (t : Bool) (r : ℕ) → 0 < r → when (not t) r ≡ 0 → t ≡ true
unless_passes t r h p = not-false t (when_passes (not t) r h p)
