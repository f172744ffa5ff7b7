-- `margin::Standing::is_short` meets its contract: each number that the margin test multiplies and adds has its bound, so no operation overflows, and the
-- expression is the definition's.
use Rattle.std.proofs.Common.{◌≡◌, ◌≤◌, ℕ, ap, pos, nat_abs, ◌-ℤ◌, ◌+ℤ◌, ◌*ℤ◌, w64, FitsSigned, to_z, arith}
use lib.Signed.{lt_z}
use Rattle.units.specs.declared.Minutes.{Minutes}
use Rattle.units.specs.declared.Net.{Net}
use Rattle.book.specs.Book.{most_days, most_price, most_quantity, most_figure, most_net}
use Rattle.book.specs.Words.{exposed_days, margin_of}
use Rattle.book.proofs.Magnitudes.{abs_difference}
use Rattle.ledger.specs.declared.standing.Standing.{Standing}
use Rattle.ledger.specs.Judging.{net_of}
use Rattle.ledger.proofs.Signed as L
use Rattle.ledger.proofs.standing.Standing.is_short.Goals as goal

-- the numbers, each with its bound, and the expressions of them
module _ (s : Standing) (at : Minutes) (change : Net) (low : nat_abs change.0 ≤ most_quantity) (e : ℕ) (is_e : (e ≡ exposed_days at.0 s.month.days) × (e ≤ s.month.days)) (n : Net) (is_n : n ≡ record { 0 = net_of s.totals }) where
  abbrev days : L.Number w64
  days = L.unsigned w64 s.month.days most_days s.month_fits.days tt

  abbrev price : L.Number w64
  price = L.signed w64 s.month.price.0 most_price s.month_fits.price tt

  abbrev figure : L.Number w64
  figure = L.signed w64 s.account.margin.figure.0 most_figure s.account_fits.figure tt

  abbrev net_at_figure : L.Number w64
  net_at_figure = L.signed w64 s.account.margin.net.0 most_net s.account_fits.net tt

  abbrev changed : L.Number w64
  changed = L.signed w64 change.0 most_quantity low tt

  abbrev exposed : L.Number w64
  exposed = L.also (L.unsigned w64 e most_days (omega (arith, is_e.1, s.month_fits.days)) tt) (pos (exposed_days at.0 s.month.days)) (ap pos is_e.0)

  abbrev net : L.Number w64
  net = L.also (L.signed w64 n.0 most_net (rw is_n (abs_difference _ _ most_net s.totals_fit.received s.totals_fit.made)) tt) (net_of s.totals) (ap (λ (k : Net). k.0) is_n)

  abbrev net_after : L.Number w64
  net_after = L.add net changed tt

  abbrev moved : L.Number w64
  moved = L.sub net_after net_at_figure tt

  abbrev scaled : L.Number w64
  scaled = L.mul figure (L.literal w64 10000 tt) tt

  abbrev held : L.Number w64
  held = L.mul scaled days tt

  abbrev priced : L.Number w64
  priced = L.mul (L.literal w64 11 tt) price tt

  abbrev daily : L.Number w64
  daily = L.mul priced exposed tt

  abbrev exposure : L.Number w64
  exposure = L.mul daily moved tt

  moved_fits : FitsSigned w64 (to_z w64 net_after.held -ℤ to_z w64 net_at_figure.held)
  moved_fits = L.sub_fits net_after net_at_figure tt

  held_fits : FitsSigned w64 (to_z w64 scaled.held *ℤ to_z w64 days.held)
  held_fits = L.mul_fits scaled days tt

  daily_fits : FitsSigned w64 (to_z w64 priced.held *ℤ to_z w64 exposed.held)
  daily_fits = L.mul_fits priced exposed tt

  exposure_fits : FitsSigned w64 (to_z w64 daily.held *ℤ to_z w64 moved.held)
  exposure_fits = L.mul_fits daily moved tt

  sum_fits : FitsSigned w64 (to_z w64 held.held +ℤ to_z w64 exposure.held)
  sum_fits = L.add_fits held exposure tt

  is_margin : lt_z (to_z w64 (L.add held exposure tt).held) (pos 0) ≡ lt_z (margin_of s.month s.account (net_of s.totals) at change.0) (pos 0)
  unfolding margin_of
  is_margin = ap (λ z. lt_z z (pos 0)) (L.add held exposure tt).is

pub overflow_sub-moved : goal.overflow_sub-moved
overflow_sub-moved c = moved_fits c.args.self.now c.args.at c.args.change c.requires _ c.exposed-e.ensures _ c.net_of-net.ensures

pub overflow_mul-held-2 : goal.overflow_mul-held-2
overflow_mul-held-2 c = held_fits c.args.self.now c.args.at c.args.change c.requires _ c.exposed-e.ensures _ c.net_of-net.ensures

pub overflow_mul-exposure-2 : goal.overflow_mul-exposure-2
overflow_mul-exposure-2 c = daily_fits c.args.self.now c.args.at c.args.change c.requires _ c.exposed-e.ensures _ c.net_of-net.ensures

pub overflow_mul-exposure-3 : goal.overflow_mul-exposure-3
overflow_mul-exposure-3 c = exposure_fits c.args.self.now c.args.at c.args.change c.requires _ c.exposed-e.ensures _ c.net_of-net.ensures

pub overflow_add-result : goal.overflow_add-result
overflow_add-result c = sum_fits c.args.self.now c.args.at c.args.change c.requires _ c.exposed-e.ensures _ c.net_of-net.ensures

pub returns : goal.returns
returns c = is_margin c.args.self.now c.args.at c.args.change c.requires _ c.exposed-e.ensures _ c.net_of-net.ensures
