-- `month_sound` meets its contract: its tests are the definition's, and a test of all four windows is one at each place. Assumes nothing.
use Rattle.std.proofs.Common.{◌≡◌, ◌∙◌, length, rules, arith}
use Rattle.std.proofs.lemmas.Grind.{common_steps}
use Rattle.book.specs.Book.{no_window}
use Rattle.book.specs.Sound.{window_sound, month_sound}
use Rattle.sound.proofs.Whole.{all_each}
use Rattle.sound.proofs.limits.month_sound.Goals as goal

pub returns-then-m-le-MOST_GIVEN : goal.returns-then-m-le-MOST_GIVEN
unfolding month_sound
returns-then-m-le-MOST_GIVEN c =
    let long : length c.args.m.windows ≡ 4 = search rules in
    let windows = c.windows_sound.ensures ∙ all_each window_sound c.args.m.windows no_window 4 long in
    grind (arith, common_steps)
