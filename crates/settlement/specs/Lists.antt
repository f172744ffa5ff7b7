-- What a listing says of a list of figures. Assumes nothing.
use Rattle.std.specs.Prelude.{List, ◌≡◌, length}
use Rattle.book.specs.Settlement as book
use Rattle.settlement.specs.declared.listing.Listing.{Listing}
use Rattle.settlement.specs.Listing.{filled}

-- how many there are, and each in its place
pub record Lists (s : Listing) (l : List book.Figures) : Type 0 where
  pub count_is : s.count ≡ length l
  pub figures_are : s.figures ≡ filled l
