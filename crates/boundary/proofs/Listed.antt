-- A settlement's figures as numbers: what a call leaves is document 01's list, of as many as the listing has (`settles`). By recursion on the list.
-- Assumes nothing.
use mathlib.Core.Path.{◌≡◌, refl, sym, ap, ◌∙◌}
use mathlib.Core.Bool.{true}
use mathlib.Core.List.{List, [], ◌∷◌, ◌++◌, map}
use Prim.Native.Nat.{ℕ, ◌*◌}
use native.Mathlib.Omega.{arith}
use lib.IntN.{ℤ}
use lib.ListN.{length, take}
use lib.Seq.{sets}
use borrow.Author.Tests.{eq-eqb}
use Rattle.std.specs.Prelude.{Ok}
use Rattle.std.specs.List.{flat_map}
use Rattle.book.specs.Settlement as book
use Rattle.settlement.specs.declared.listing.Listing.{Listing}
use Rattle.settlement.specs.Figures.{figures_in}
use Rattle.settlement.specs.Settling.{SettlesWhole}
use Rattle.settlement.proofs.Written.{in_use}
use Rattle.boundary.specs.Numbers.{book_in}
use Rattle.boundary.specs.Readable.{readable}
use Rattle.boundary.specs.Lent.{figure_places, figure_numbers, lent_reason, lent_list, Settles}
use Rattle.boundary.specs.Inner.{held_numbers}

held : (l : List book.Figures) → flat_map held_numbers (map figures_in l) ≡ flat_map figure_numbers l
held [] = refl
held (f ∷ l) = ap (λ r. figure_numbers f ++ r) (held l)

module _ (ns : List ℤ) (lv room : List ℕ) (r : readable ns ≡ true) (long : length room ≡ figure_places) (s : Listing) (w : SettlesWhole (book_in ns lv) (Ok s)) where
  reason_is : lent_reason ns lv room ≡ 0
  reason_is = rw (r, eq-eqb (length room) figure_places long) (sym w.reason_is)

  list_is : lent_list ns lv room ≡ book.settlement (book_in ns lv)
  list_is = rw reason_is

  pub settles : {room' : List ℕ} → room' ≡ sets room 0 (flat_map held_numbers (take s.count s.figures)) → Settles ns lv room (32 * s.count) room'
  settles e = record {
    answer_is = omega (arith, reason_is, w.lists.count_is, ap length list_is);
    figures_are = e ∙ ap (λ l. sets room 0 (flat_map held_numbers l)) (in_use w.lists) ∙ ap (sets room 0) (held (book.settlement (book_in ns lv)) ∙ ap (flat_map figure_numbers) (sym list_is));
  }
