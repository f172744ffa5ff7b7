-- Document 01, "Settlement": the eight figures of each registered participant, and when settlement is refused. Assumes nothing.
use Rattle.std.specs.Prelude.{Bool, cond, not, ◌&&◌, List, [], ◌∷◌, ◌++◌, ℕ, zero, suc, ◌-◌, ◌*◌, ◌/◌, ltb, nat_abs}
use Rattle.book.specs.Book.{Book, account, is_open, is_generator, is_registered, participants}
use Rattle.book.specs.Words.{accepted, received, tradeable, excess, level, over_days}
use Rattle.book.specs.Sound.{right_lengths, sound}
use Rattle.book.specs.Reasons.{some}

-- what settlement says of a participant
pub record Figures : Type 0 where
  pub participant : ℕ
  pub tradeable : ℕ
  pub made : ℕ
  pub received : ℕ
  pub left : ℕ
  pub over : ℕ
  pub short : ℕ
  pub dsm : ℕ
  pub pay : ℕ

-- a participant that is no generator has tradeable 0
unfoldable pub credits : Book → ℕ → ℕ
credits b p = cond (is_generator (account b p)) (tradeable b p) 0

-- kind 4 levels summed over days, divided by D, rounded down
unfoldable pub dsm_of : Book → ℕ → ℕ
dsm_of b p = over_days b.month.days (level b p 4) / b.month.days

-- received above requirement, else 0
abbrev pub over_of : Book → ℕ → ℕ
over_of b p = received b p - (account b p).requirement.0

-- requirement above received, else 0
abbrev pub short_of : Book → ℕ → ℕ
short_of b p = (account b p).requirement.0 - received b p

-- pay: over × P, in thousandths of a cent
unfoldable pub figures_of : Book → ℕ → Figures
figures_of b p = record {
  participant = p;
  tradeable = credits b p;
  made = accepted b p;
  received = received b p;
  left = credits b p - accepted b p;
  over = over_of b p;
  short = short_of b p;
  dsm = dsm_of b p;
  pay = over_of b p * nat_abs b.month.price.0;
}

-- for each registered participant below n, in order
unfoldable pub settled : Book → ℕ → List Figures
settled b zero = []
settled b (suc n) = settled b n ++ cond (is_registered (account b n)) (figures_of b n ∷ []) []

-- 16: settlement while any generator has an excess
unfoldable pub reason16 : Book → Bool
reason16 b = some participants (λ p. is_generator (account b p) && ltb 0 (excess b p))

-- 1, 2 and 16, the lowest that applies, or 0
unfoldable pub settlement_reason : Book → ℕ
settlement_reason b = cond (not (right_lengths b && sound b)) 1 (cond (not (is_open b)) 2 (cond (reason16 b) 16 0))

unfoldable pub settlement : Book → List Figures
settlement b = settled b participants
