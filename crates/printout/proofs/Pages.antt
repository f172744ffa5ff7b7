-- A page, line by line: a line always has room where it starts, since the page is as long as the longest one. Assumes nothing.
use mathlib.Core.Path.{◌≡◌, refl, subst}
use mathlib.Core.Bool.{Bool, true, false, cond}
use mathlib.Core.List.{List}
use Prim.Native.Nat.{ℕ, ◌+◌, ◌≤◌}
use native.Mathlib.Numerals.{add-one}
use native.Mathlib.Omega.{arith}
use lib.ListN.{length, get_or}
use borrow.Author.Tests.{le-leb}
use Rattle.settlement.specs.declared.figures.Figures.{Figures}
use Rattle.settlement.specs.Figures.{no_figures}
use Rattle.text.specs.Lines.{figures_line, roomy, Laid}
use Rattle.printout.specs.Page.{Gathered, start_of, with_line, line_at, with_answers, numbers_of, with_figures}

-- there is room where it starts
room : (most : ℕ) (g : Gathered) → most ≤ length g.bytes → roomy g.bytes (start_of most g) most ≡ true
unfolding start_of
room most g long = by (roomy g.bytes g.used most) refl
  where
    by : (t : Bool) → roomy g.bytes g.used most ≡ t → roomy g.bytes (cond t g.used 0) most ≡ true
    by true e = e
    by false e = le-leb (0 + most) (length g.bytes) (omega arith)

-- so the page, made ready for it, gets the line
pub line_held : {most : ℕ} (g : Gathered) {ready : Gathered} {line line' out' : List ℕ} {r : ℕ} → most ≤ length g.bytes → ready ≡ record { bytes = g.bytes; used = start_of most g }
    → line ≡ line' → Laid most ready.bytes ready.used line out' r → record { bytes = out'; used = r } ≡ with_line most line' g
unfolding with_line
line_held {most} g {ready} {line} {line'} {out'} {r} long e same l =
    let there : Laid most g.bytes (start_of most g) line' out' r =
    subst (λ (x : Gathered). Laid most x.bytes x.used line' out' r) e (subst (λ (x : List ℕ). Laid most ready.bytes ready.used x out' r) same l) in
    λ i. record { bytes = (rw (room most g long) at there.bytes) i; used = (rw (room most g long) at there.ends) i }

-- the lines of one record more, and of one participant more
pub answers_more : (before : ℕ) (words : List ℕ) (i : ℕ) (g : Gathered) → with_answers before words (i + 1) g ≡ with_line 64 (line_at before words i) (with_answers before words i g)
unfolding with_answers
answers_more before words i g = rw add-one

pub figures_more : (figures : List Figures) (i : ℕ) (g : Gathered)
    → with_figures figures (i + 1) g ≡ with_line 256 (figures_line (get_or figures i no_figures).participant (numbers_of (get_or figures i no_figures))) (with_figures figures i g)
unfolding with_figures
figures_more figures i g = rw add-one
