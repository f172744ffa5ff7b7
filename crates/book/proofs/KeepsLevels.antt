-- A book stays sound when levels of one participant and kind, from a day to D, are rewritten by numbers of at most 10,000,000: the places written are
-- those of that participant, kind and days, so that no day after D is touched. CREATE and TERMINATE write so. Assumes nothing.
use mathlib.Core.Path.{◌≡◌, ap, ◌∙◌}
use mathlib.Core.List.{List}
use Prim.Native.Nat.{ℕ, zero, suc, ◌+◌, ◌-◌, ◌*◌, ◌%◌, ◌≤◌, ◌<◌}
use native.Mathlib.Nat.{mul-add-mod_self_right, mod-eq_of_lt}
use native.Mathlib.Omega.{arith}
use lib.ListN.{length, get_or}
use Rattle.book.specs.Book.{Book, participants, most_level, level_places}
use Rattle.book.specs.Words.{level_place}
use Rattle.book.specs.Steps.{changed, with_levels}
use Rattle.book.proofs.Tables.{after_set, run_length}
use Rattle.book.proofs.Sound.{SoundLevel, Opened}

module _ (f : ℕ → ℕ) (lv : List ℕ) (from : ℕ) where
  -- what holds of the n changed levels and of the others
  after_changed : (P : ℕ → ℕ → Type 0) → ((i : ℕ) → P i (get_or lv i 0)) → (n : ℕ) → from + n ≤ length lv → ((k : ℕ) → k < n → P (from + k) (f (get_or lv (from + k) 0))) → (i : ℕ) → P i (get_or (changed f lv from n) i 0)
  unfolding changed
  after_changed P old zero fit new = old
  after_changed P old (suc n) fit new =
      after_set P (changed f lv from n) (from + n) (f (get_or lv (from + n) 0)) 0 (omega (arith, run_length f lv from n)) (new n (omega arith))
      (λ i _. after_changed P old n (omega arith) (λ k l. new k (omega arith)) i)

module _ {b : Book} (o : Opened b) (f : ℕ → ℕ) (p kind day : ℕ) (below : p < participants) (kinds : kind ≤ 4) (first : 0 < day) (last : day ≤ b.month.days) where
  -- the place of the k-th day from the first, in the table and among the 31 days
  abbrev place : ℕ
  place = level_place p kind day

  in_days : (k : ℕ) → day - 1 + k < 31 → (place + k) % 31 ≡ day - 1 + k
  in_days k l = ap (λ n. n % 31) (same p (kind - 1)) ∙ mul-add-mod_self_right (p * 4 + (kind - 1)) 31 (day - 1 + k) ∙ mod-eq_of_lt l
    where
      same : (p kind : ℕ) → p * 124 + kind * 31 + (day - 1) + k ≡ (p * 4 + kind) * 31 + (day - 1 + k)
      same p kind = omega arith

  pub levels_kept : ((k : ℕ) → k < b.month.days + 1 - day → f (get_or b.levels (level_place p kind day + k) 0) ≤ most_level) → Opened (with_levels f p kind day b)
  levels_kept low = record {
    lengths = record { windows = o.lengths.windows; accounts = o.lengths.accounts; levels = run_length f b.levels place (b.month.days + 1 - day) ∙ o.lengths.levels; ledger = o.lengths.ledger };
    month = o.month;
    accounts = o.accounts;
    levels =
        after_changed f b.levels place (λ i x. i < level_places → SoundLevel b.month.days i x) o.levels (b.month.days + 1 - day) (omega (arith, o.month.most, o.lengths.levels))
        (λ k l _. record { most = low k l; after = λ m. absurd (omega (arith, in_days k (omega (arith, o.month.most)))) });
    given = o.given;
    later = o.later;
    held = o.held;
  }
