-- No two outcomes meet the contract of `follow` (`follows_only`), nor of `misses` (`measures_only`): each part is told, and each table at every place.
-- Assumes nothing.
use mathlib.Core.Path.{◌≡◌, sym, ap, ◌∙◌}
use mathlib.Core.List.{List}
use Prim.Native.Nat.{ℕ}
use native.Mathlib.Omega.{arith}
use lib.Seq.{ext_get_or}
use Rattle.std.specs.Prelude.{Option, None}
use Rattle.book.specs.Book.{Book}
use Rattle.audit.specs.declared.origin.Put.{Put}
use Rattle.audit.specs.declared.origin.Followed.{Followed}
use Rattle.audit.specs.declared.nearness.Measured.{Measured}
use Rattle.audit.specs.Following.{book_held, Follows}
use Rattle.audit.specs.Measuring.{Measures}

pub follows_only : (b : Book) (history : List ℕ) (done : ℕ) (puts : List (Option Put)) (r r' : Followed) (lv lv' : List ℕ) → Follows b history done puts r lv → Follows b history done puts r' lv'
    → (r ≡ r') × (lv ≡ lv')
follows_only b history done puts r r' lv lv' f g =
    let book : book_held r.book lv ≡ book_held r'.book lv' = f.book_is ∙ sym g.book_is in
    let same : r.puts ≡ r'.puts = ext_get_or None r.puts r'.puts (f.long ∙ sym g.long) (λ i o. f.puts_are i (omega (arith, f.long)) ∙ sym (g.puts_are i (omega (arith, f.long)))) in (
      λ j. record { book = record { month = (book j).month; accounts = (book j).accounts; ledger = (book j).ledger }; puts = same j },
      ap (λ b. b.levels) book,
    )

pub measures_only : (w : List ℕ) (c : ℕ) (x : List ℕ) (r r' : Measured) → Measures w c x r → Measures w c x r' → r ≡ r'
measures_only w c x r r' f g =
    let same : r.each ≡ r'.each = ext_get_or 0 r.each r'.each (f.long ∙ sym g.long) (λ i o. f.each_is i (omega (arith, f.long)) ∙ sym (g.each_is i (omega (arith, f.long)))) in
    λ j. record { accepted = (f.accepted_is ∙ sym g.accepted_is) j; each = same j; sum = (f.sum_is ∙ sym g.sum_is) j }
