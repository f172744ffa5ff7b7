-- Tables and runs of numbers. The numbers of a table's entries, one after the other, are as many as the entries have, and stand where they are looked for
-- (`flat_length`, `flat_at`); entries that are read one by one give back the numbers that they were read from (`flat_tabled`); and a list cut into chunks is
-- read chunk by chunk as it is place by place (`chunks_map`, `chunks_all`). Each by recursion on a list or a length. Assumes nothing.
use Rattle.std.proofs.Common.{◌≡◌, ℕ, zero, suc, ◌+◌, ◌*◌, ◌≤◌, ◌<◌, Bool, ◌&&◌, List, [], ◌∷◌, ◌++◌, length, take, drop, get_or, map, flat_map, refl, sym, ap, ◌∙◌, arith, add-one, append-nil, append_assoc, length-append}
use Rattle.std.specs.List.{list_all}
use Rattle.std.specs.Simd.{first_chunks}
use Rattle.std.proofs.lemmas.List.{drop-drop, drop_all, take_all}
use Rattle.std.proofs.Common.{length-take-le}
use lib.ListN.{length-map, get_or-map}
use Rattle.std.proofs.lemmas.List.Concat.{flat_map-append, get_or-flat_map}
use Rattle.std.proofs.lemmas.List.Edits.{sets, sets-eq}
use Rattle.std.proofs.lemmas.List.Folds.{list_all_more}
use Rattle.std.proofs.lemmas.List.FromFn.{map-range_with_len_more, fill_by_all}
use Rattle.book.specs.Sound.{each}
use Rattle.boundary.specs.Numbers.{tabled}

-- ---- f at 0, 1, 2 .. below n
module _ {A : Type 0} where
  tabled_more : (n : ℕ) (f : ℕ → A) → tabled (suc n) f ≡ tabled n f ++ (f n ∷ [])
  tabled_more n f = ap (λ k. tabled k f) (sym (add-one n)) ∙ map-range_with_len_more f 0 n n (omega arith)

  pub tabled-add : (m n : ℕ) (f : ℕ → A) → tabled (m + n) f ≡ tabled m f ++ tabled n (λ k. f (m + k))
  tabled-add m zero f = let none : m + 0 ≡ m = omega arith in ap (λ k. tabled k f) none ∙ sym (append-nil (tabled m f))
  tabled-add m (suc n) f =
      let more : m + suc n ≡ suc (m + n) = omega arith in
      ap (λ k. tabled k f) more
      ∙ tabled_more (m + n) f
      ∙ ap (λ r. r ++ (f (m + n) ∷ [])) (tabled-add m n f)
      ∙ append_assoc (tabled m f) (tabled n (λ k. f (m + k))) (f (m + n) ∷ [])
      ∙ ap (λ r. tabled m f ++ r) (sym (tabled_more n (λ k. f (m + k))))

  -- a list read place by place
  pub tabled_all : (l : List A) (d : A) (n : ℕ) → length l ≡ n → tabled n (λ i. get_or l i d) ≡ l
  tabled_all l d n e = sym (fill_by_all (λ i. get_or l i d) l n d e (λ k o. refl))

-- ---- the numbers of entries
module _ {A B : Type 0} (f : A → List B) where
  -- so many for each entry
  pub flat_length : (w : ℕ) → ((a : A) → length (f a) ≡ w) → (l : List A) → length (flat_map f l) ≡ length l * w
  flat_length w e [] = omega arith
  flat_length w e (a ∷ l) = length-append (f a) (flat_map f l) ∙ (λ i. e a i + flat_length w e l i) ∙ omega arith

  -- number j of entry p
  pub flat_at : (w : ℕ) → ((a : A) → length (f a) ≡ w) → (d : A) (e : B) (l : List A) (p j : ℕ) → p < length l → j < w
      → get_or (flat_map f l) (p * w + j) e ≡ get_or (f (get_or l p d)) j e
  flat_at w long d e l p j o b =
      let before : p * w ≡ length (flat_map f (take p l)) = sym (flat_length w long (take p l) ∙ ap (λ k. k * w) (length-take-le p l (omega arith))) in
      ap (λ k. get_or (flat_map f l) (k + j) e) before ∙ get_or-flat_map f l p j d e o (omega (arith, long (get_or l p d)))

  -- entries of w numbers each, read one by one
  pub flat_tabled : (g : ℕ → A) (h : ℕ → B) (w n : ℕ) → ((p : ℕ) → p < n → f (g p) ≡ tabled w (λ k. h (p * w + k))) → flat_map f (tabled n g) ≡ tabled (n * w) h
  flat_tabled g h w zero e = let none : zero ≡ zero * w = omega arith in ap (λ k. tabled k h) none
  flat_tabled g h w (suc n) e =
      let more : n * w + w ≡ suc n * w = omega arith in
      ap (flat_map f) (tabled_more n g)
      ∙ flat_map-append f (tabled n g) (g n ∷ [])
      ∙ (λ i. flat_tabled g h w n (λ p o. e p (omega arith)) i ++ (append-nil (f (g n)) ∙ e n (omega arith)) i)
      ∙ sym (tabled-add (n * w) w h)
      ∙ ap (λ k. tabled k h) more

-- stores over a whole list
pub sets_all : {A : Type 0} (vs l : List A) → length vs ≡ length l → sets l 0 vs ≡ vs
sets_all vs l e =
    sets-eq vs l 0 (omega (arith, e))
    ∙ ap (λ r. vs ++ r) (drop_all (0 + length vs) l (omega (arith, e)))
    ∙ append-nil vs

-- ---- a list in chunks of w
module _ {A : Type 0} (w : ℕ) where
  chunks_long : (n : ℕ) (l : List A) → length (first_chunks w n l) ≡ n
  chunks_long zero l = refl
  chunks_long (suc n) l = ap suc (chunks_long n (drop w l))

  chunk_at : (n : ℕ) (l : List A) (p : ℕ) → p < n → get_or (first_chunks w n l) p [] ≡ take w (drop (p * w) l)
  chunk_at zero l p o = absurd (omega arith)
  chunk_at (suc n) l zero o = let none : 0 ≡ 0 * w = omega arith in ap (λ k. take w (drop k l)) none
  chunk_at (suc n) l (suc p) o =
      let more : w + p * w ≡ suc p * w = omega arith in
      chunk_at n (drop w l) p (omega arith) ∙ ap (take w) (drop-drop (p * w) w l ∙ ap (λ k. drop k l) more)

  -- what is read of each chunk, and at each place
  module _ (n : ℕ) (l : List A) where
    abbrev chunks : List (List A)
    chunks = first_chunks w n l

    pub chunks_map : {B : Type 0} (g : List A → B) (f : ℕ → B) → ((p : ℕ) → p < n → g (take w (drop (p * w) l)) ≡ f p) → map g chunks ≡ tabled n f
    chunks_map g f h =
        fill_by_all f (map g chunks) n (g []) (length-map chunks g ∙ chunks_long n l) (λ p o. get_or-map g chunks p [] ∙ ap g (chunk_at n l p o) ∙ h p o)

    module _ (g : List A → Bool) (f : ℕ → Bool) (h : (p : ℕ) → p < n → g (take w (drop (p * w) l)) ≡ f p) where
      below : (m : ℕ) → m ≤ n → list_all g (take m chunks) ≡ each m f
      unfolding each
      below zero o = refl
      below (suc m) o =
          ap (λ k. list_all g (take k chunks)) (sym (add-one m))
          ∙ list_all_more g chunks m [] (omega (arith, chunks_long n l))
          ∙ (λ i. below m (omega arith) i && (ap g (chunk_at n l m (omega arith)) ∙ h m (omega arith)) i)

      pub chunks_all : list_all g chunks ≡ each n f
      chunks_all = ap (list_all g) (sym (take_all n chunks (omega (arith, chunks_long n l)))) ∙ below n (omega arith)
