-- The page: the lines that gather in a buffer on their way to standard output. A line for which too little room is left starts the page anew, once what
-- was gathered is written. Assumes nothing.
use Rattle.std.specs.Prelude.{cond, List, [], ◌∷◌, ℕ, zero, suc, ◌+◌, take, length, get_or, Result, Ok, Err}
use Rattle.reasons.specs.declared.Reason.{Reason}
use Rattle.reasons.specs.Numbers.{reason_number}
use Rattle.ledger.specs.Running.{reason_in, number_in}
use Rattle.settlement.specs.declared.figures.Figures.{Figures}
use Rattle.settlement.specs.declared.listing.Listing.{Listing}
use Rattle.settlement.specs.Figures.{no_figures}
use Rattle.printout.specs.declared.page.Page.{Page}
use Rattle.text.specs.Lines.{answer_line, figures_line, refusal_line, placed, roomy}

-- the buffer, and how much of it is filled
pub record Gathered : Type 0 where
  pub bytes : List ℕ
  pub used : ℕ

-- the lines of a page
abbrev pub gathered : Page → Gathered
gathered p = record { bytes = p.bytes; used = p.used }

-- where a line starts that is at most so long
unfoldable pub start_of : ℕ → Gathered → ℕ
start_of most g = cond (roomy g.bytes g.used most) g.used 0

unfoldable pub with_line : ℕ → List ℕ → Gathered → Gathered
with_line most line g = record { bytes = placed g.bytes (start_of most g) line; used = start_of most g + length line }

-- the line of the record at a place of a piece, so many having come before the piece
abbrev pub line_at : ℕ → List ℕ → ℕ → List ℕ
line_at before words i = answer_line (before + i + 1) (reason_in (get_or words i 0)) (number_in (get_or words i 0))

-- the lines of the first n records of a piece
unfoldable pub with_answers : ℕ → List ℕ → ℕ → Gathered → Gathered
with_answers before words zero g = g
with_answers before words (suc n) g = with_line 64 (line_at before words n) (with_answers before words n g)

-- the figures of a participant, in the order of its line
abbrev pub numbers_of : Figures → List ℕ
numbers_of f = f.tradeable.0 ∷ f.made.0 ∷ f.received.0 ∷ f.left.0 ∷ f.over.0 ∷ f.short.0 ∷ f.dsm.0 ∷ f.pay.0 ∷ []

-- the lines of the first n participants that have figures
unfoldable pub with_figures : List Figures → ℕ → Gathered → Gathered
with_figures figures zero g = g
with_figures figures (suc n) g = with_line 256 (figures_line (get_or figures n no_figures).participant (numbers_of (get_or figures n no_figures))) (with_figures figures n g)

-- the lines of settlement, one for each participant that is listed, or that of its refusal
unfoldable pub with_settlement : Result Listing Reason → Gathered → Gathered
with_settlement (Ok l) g = with_figures (take l.count l.figures) (length (take l.count l.figures)) g
with_settlement (Err r) g = with_line 32 (refusal_line (reason_number r)) g
