-- A kind's levels stand in one run of the table, so that the sum of the run is its sum over the days (`kind_run`): by induction on the days. A sum of
-- levels is at most so many times the most that one holds (`sum_most`). Assumes nothing.
use mathlib.Core.Path.{◌≡◌, refl, sym, ap, ◌∙◌}
use mathlib.Core.List.{List}
use Prim.Native.Nat.{ℕ, zero, suc, ◌+◌, ◌-◌, ◌*◌, ◌≤◌}
use native.Mathlib.Numerals.{add-one}
use native.Mathlib.Omega.{arith}
use lib.ListN.{length, get_or, take, drop}
use Rattle.std.specs.List.{sum}
use Rattle.std.proofs.Common.{Fits, w32}
use Rattle.std.proofs.lemmas.List.{length-drop, get_or-drop}
use Rattle.std.proofs.lemmas.List.Elements.{All-from_get_or}
use Rattle.std.proofs.lemmas.List.Sums.{sum_by_more, sum_by-le}
use Rattle.book.specs.Words.{over_days}
use Rattle.credits.specs.Credits.{credit_days}
use Rattle.credits.proofs.Rows.{Row}

run_days : (lv : List ℕ) (from d : ℕ) → from + d ≤ length lv → sum (take d (drop from lv)) ≡ over_days d (λ day. get_or lv (from + (day - 1)) 0)
unfolding over_days
run_days lv from zero o = refl
run_days lv from (suc d) o =
    let more = rw add-one at (sym (sum_by_more (λ x. x) (drop from lv) d 0 (omega (arith, length-drop from lv)))) in
    let here : suc d - 1 ≡ d = omega arith in
    rw here (omega (arith, more, run_days lv from d (omega arith), get_or-drop from lv d 0))

-- the levels of a kind, in a row of the table
pub kind_run : {lv : List ℕ} {d p : ℕ} → Row lv d p → (kind : ℕ) {from n : ℕ} → from ≡ p * 124 + (kind - 1) * 31 → kind ≤ 4 → n ≡ d → sum (take n (drop from lv)) ≡ credit_days lv d p kind
kind_run {lv} {d} {p} row kind {from} {n} e o k =
    ap (λ m. sum (take m (drop from lv))) k
    ∙ run_days lv from d (omega (arith, row.whole, row.days, row.party))
    ∙ λ i. over_days d (λ day. get_or lv (e i + (day - 1)) 0)

pub sum_most : (lv : List ℕ) → ((i : ℕ) → Fits w32 (get_or lv i 0)) → sum lv ≤ length lv * 4294967295
sum_most lv fits = sum_by-le (λ x. x) 4294967295 lv (All-from_get_or (λ x. x ≤ 4294967295) lv 0 (λ i o. let f = fits i in omega arith))
