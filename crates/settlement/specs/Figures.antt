-- One participant's figures: document 01's, in the units of the code, and as they are worked out from its account, the month, the levels and its totals.
-- Assumes nothing.
use Rattle.std.specs.Prelude.{Bool, cond, ◌&&◌, List, ℕ, ◌-◌, ◌*◌, ltb, nat_abs}
use Rattle.book.specs.declared.Account.{Account}
use Rattle.book.specs.declared.Month.{Month}
use Rattle.book.specs.Book.{is_generator}
use Rattle.book.specs.Settlement as book
use Rattle.credits.specs.Credits.{tradeable_at, dsm_at}
use Rattle.settlement.specs.declared.figures.Figures.{Figures}

-- the numbers of document 01 as quantities and pay
abbrev pub figures_in : book.Figures → Figures
figures_in f = record {
  participant = f.participant;
  tradeable = record { 0 = f.tradeable };
  made = record { 0 = f.made };
  received = record { 0 = f.received };
  left = record { 0 = f.left };
  over = record { 0 = f.over };
  short = record { 0 = f.short };
  dsm = record { 0 = f.dsm };
  pay = record { 0 = f.pay };
}

-- what stands in a place that is not used
abbrev pub no_figures : Figures
no_figures = record {
  participant = 0;
  tradeable = record { 0 = 0 };
  made = record { 0 = 0 };
  received = record { 0 = 0 };
  left = record { 0 = 0 };
  over = record { 0 = 0 };
  short = record { 0 = 0 };
  dsm = record { 0 = 0 };
  pay = record { 0 = 0 };
}

-- a participant that is no generator has tradeable 0
abbrev pub credits_from : Month → List ℕ → Account → ℕ → ℕ
credits_from m lv a p = cond (is_generator a) (tradeable_at lv m.days p) 0

-- the eight figures
unfoldable pub figures_from : Month → List ℕ → Account → (made received p : ℕ) → book.Figures
figures_from m lv a made received p = record {
  participant = p;
  tradeable = credits_from m lv a p;
  made = made;
  received = received;
  left = credits_from m lv a p - made;
  over = received - a.requirement.0;
  short = a.requirement.0 - received;
  dsm = dsm_at lv m.days p;
  pay = (received - a.requirement.0) * nat_abs m.price.0;
}

-- a generator that has made more than its credits
unfoldable pub exceeds : Month → List ℕ → Account → (made p : ℕ) → Bool
exceeds m lv a made p = is_generator a && ltb (tradeable_at lv m.days p) made
