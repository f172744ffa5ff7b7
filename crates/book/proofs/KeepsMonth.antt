-- A book stays sound when its month is rewritten: a later minute and other windows change nothing else that is tested (`month_kept`), and a month
-- opened on the fresh book finds all tables empty (`open_kept`). Assumes nothing.
use mathlib.Core.Path.{◌≡◌, refl, ap, ◌∙◌}
use mathlib.Core.Bool.{Bool, true, false, cond}
use mathlib.Core.List.{List}
use Prim.Native.Nat.{ℕ, ◌-◌, ◌%◌, ◌≤◌, ◌<◌}
use native.Mathlib.Nat.{mod-lt, not-suc-le-zero}
use native.Mathlib.Omega.{arith}
use lib.Dec.{leb}
use lib.IntN.{ℤ, pos, nat_abs}
use lib.Signed.{le_z}
use lib.ListN.{length, get_or, set, length-set}
use Rattle.units.specs.declared.Cents.{Cents}
use Rattle.units.specs.declared.Minutes.{Minutes}
use Rattle.book.specs.declared.Window.{Window}
use Rattle.book.specs.Book.{Book, fresh, no_window, no_allocation, most_given, fewest_days, most_days, most_price, most_end}
use Rattle.book.specs.Steps.{at_minute, opened, with_end, window_set, with_month}
use Rattle.book.proofs.Tables.{after_set, blank}
use Rattle.book.proofs.Sums.{total_none}
use Rattle.book.proofs.Sound.{SoundWindow, Opened, fresh_lengths}
use Rattle.book.proofs.Held.{held_in, held_total, held_empty}

module _ {b : Book} (o : Opened b) where
  pub month_kept : (t : Minutes) (ws : List Window) → length ws ≡ 4 → ((i : ℕ) → i < 4 → SoundWindow (get_or ws i no_window))
      → Opened (with_month (λ m. record { days = m.days; price = m.price; last = t; given = m.given; windows = ws }) b)
  month_kept t ws e w = record {
    lengths = record { windows = e; accounts = o.lengths.accounts; levels = o.lengths.levels; ledger = o.lengths.ledger };
    month = record {
      fewest = o.month.fewest;
      most = o.month.most;
      price_low = o.month.price_low;
      price_high = o.month.price_high;
      given = o.month.given;
      windows = w;
    };
    accounts = o.accounts;
    levels = o.levels;
    given = o.given;
    later = o.later;
    held = o.held;
  }

  pub at_minute_lem : (t : Minutes) → Opened (with_month (at_minute t) b)
  at_minute_lem t = month_kept t b.month.windows o.lengths.windows o.month.windows

  -- WINDOW
  pub window_kept : (s : ℕ) (e : ℤ) → nat_abs e ≤ most_end → Opened (with_month (window_set s e) b)
  window_kept s e h =
      month_kept b.month.last (set b.month.windows place (with_end s e old)) (simp length-set o.lengths.windows)
      (after_set (λ i w. i < 4 → SoundWindow w) b.month.windows place (with_end s e old) no_window (omega (arith, below, o.lengths.windows)) (λ l. one_end (leb s 4)) (λ i n l. o.month.windows i l))
    where
      place : ℕ
      place = (s - 1) % 4

      below : place < 4
      below = mod-lt (s - 1) (omega arith)

      old : Window
      old = get_or b.month.windows place no_window

      one_end : (t : Bool) → SoundWindow (cond t (record { opening = record { 0 = e }; closing = old.closing }) (record { opening = old.opening; closing = record { 0 = e } }))
      one_end true = record { opening = h; closing = (o.month.windows place below).closing }
      one_end false = record { opening = (o.month.windows place below).opening; closing = h }

-- OPEN
module _ (d : ℕ) (p : Cents) (fewest : fewest_days ≤ d) (most : d ≤ most_days) (low : le_z (pos 0) p.0 ≡ true) (high : le_z p.0 (pos most_price) ≡ true) where
  pub open_kept : Opened (with_month (opened d p) fresh)
  unfolding fresh
  open_kept = record {
    lengths = record { windows = fresh_lengths.windows; accounts = fresh_lengths.accounts; levels = fresh_lengths.levels; ledger = fresh_lengths.ledger };
    month = record {
      fewest = fewest;
      most = most;
      price_low = low;
      price_high = high;
      given = omega arith;
      windows = λ i l. rw blank (omega arith);
    };
    accounts = λ q l. rw blank (omega arith);
    levels = λ i l. rw blank (record { most = omega arith; after = λ _. refl });
    given = λ i l. absurd (not-suc-le-zero l);
    later = λ i l. blank most_given i no_allocation;
    held = λ q l. omega (arith, held_total q fresh.ledger, total_none (held_in q) no_allocation fresh.ledger (λ i k. ap (held_in q) (blank most_given i no_allocation) ∙ held_empty q));
  }
