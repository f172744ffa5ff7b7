-- The list of figures, a participant more at a time. One that is registered is put in the first place not used, which there is while fewer than 32 were
-- looked at. Assumes nothing.
use mathlib.Core.Path.{◌≡◌, sym, ap, ◌∙◌}
use mathlib.Core.Bool.{Bool, true, false, cond}
use mathlib.Core.List.{List, [], ◌∷◌, ◌++◌, map, map-append}
use Prim.Native.Nat.{ℕ, zero, suc, ◌+◌, ◌-◌, ◌≤◌, ◌<◌}
use native.Mathlib.Numerals.{add-one}
use native.Mathlib.Omega.{arith}
use lib.ListN.{length, get_or, set, replicate, length-append, length-map}
use lib.Seq.{set_at, append_snoc}
use Rattle.book.specs.declared.Account.{Account}
use Rattle.book.specs.declared.Month.{Month}
use Rattle.book.specs.Book.{is_registered, no_account, participants}
use Rattle.book.specs.Settlement as book
use Rattle.sound.specs.declared.made.Totals.{Totals}
use Rattle.settlement.specs.declared.figures.Figures.{Figures}
use Rattle.settlement.specs.declared.listing.Listing.{Listing}
use Rattle.settlement.specs.Figures.{figures_in, no_figures}
use Rattle.settlement.specs.Listing.{filled, figures_at, settled_from}
use Rattle.settlement.specs.Lists.{Lists}

-- ---- nobody, and one more
pub lists_none : {s : Listing} → s.count ≡ 0 → s.figures ≡ replicate participants no_figures → Lists s []
lists_none c f = record { count_is = c; figures_are = f }

module _ (l : List book.Figures) (f : book.Figures) (there : length l < participants) where
  longer : length (l ++ (f ∷ [])) ≡ length l + 1
  longer = length-append l (f ∷ [])

  filled_more : set (filled l) (length l) (figures_in f) ≡ filled (l ++ (f ∷ []))
  filled_more =
      let free : participants - length l ≡ suc (participants - (length l + 1)) = omega arith in
      let rest : List Figures = replicate (participants - (length l + 1)) no_figures in
      ap (λ (k : ℕ). set (map figures_in l ++ replicate k no_figures) (length l) (figures_in f)) free
      ∙ set_at (map figures_in l) no_figures rest (figures_in f) (length l) (length-map l figures_in)
      ∙ sym (append_snoc (map figures_in l) (figures_in f) rest)
      ∙ ap (λ (us : List Figures). us ++ rest) (sym (map-append figures_in l (f ∷ [])))
      ∙ ap (λ (k : ℕ). map figures_in (l ++ (f ∷ [])) ++ replicate (participants - k) no_figures) (sym longer)

  pub lists_more : {s t : Listing} {g : Figures} → Lists s l → g ≡ figures_in f → (t.count ≡ s.count + 1) × (t.figures ≡ set s.figures s.count g) → Lists t (l ++ (f ∷ []))
  lists_more h e p = record {
    count_is = p.0 ∙ ap (λ n. n + 1) h.count_is ∙ sym longer;
    figures_are = p.1 ∙ (λ i. set (h.figures_are i) (h.count_is i) (e i)) ∙ filled_more;
  }

-- ---- the participants below n
module _ (m : Month) (lv : List ℕ) (accounts : List Account) (ts : List Totals) where
  abbrev so_far : ℕ → List book.Figures
  so_far n = settled_from m lv accounts ts n

  -- as many as are registered, and so at most n
  pub settled_most : (n : ℕ) → length (so_far n) ≤ n
  unfolding settled_from
  settled_most zero = omega arith
  settled_most (suc n) = by (is_registered (get_or accounts n no_account)) (settled_most n)
    where
      by : (t : Bool) → length (so_far n) ≤ n → length (so_far n ++ cond t (figures_at m lv accounts ts n ∷ []) []) ≤ suc n
      by true h = omega (arith, length-append (so_far n) (figures_at m lv accounts ts n ∷ []))
      by false h = omega (arith, length-append (so_far n) [])

  -- the next one, whether it is registered or not
  pub settled_more : (n : ℕ) (t : Bool) → is_registered (get_or accounts n no_account) ≡ t → settled_from m lv accounts ts (n + 1) ≡ so_far n ++ cond t (figures_at m lv accounts ts n ∷ []) []
  unfolding settled_from
  settled_more n t e = rw (add-one n, e)
