use Rattle.std.proofs.lemmas.Grind.{common_steps}
-- How many hold a copy of a map.
use Rattle.std.proofs.Common.{◌≡◌, ℕ, ◌+◌, ◌-◌, ◌<◌, ◌≤◌, ◌==◌, ◌^◌, ⊎_elim, Bool, true, cond, None, Some, List, [], ◌∷◌, length, map, refl, sym, ap, subst, ◌∙◌, arith, slice_index_or, count_by}
use Rattle.std.proofs.Common.{sum_by}
use Rattle.std.specs.List.{list_any}
use Rattle.std.proofs.lemmas.Bool.{and_parts, eqb-true, or_cases}
use Rattle.std.proofs.lemmas.List.{get_or_default}
use Rattle.std.proofs.lemmas.List.Sums.{sum_by-cons}
use Rattle.hp_laws.proofs.counts.FileMoves.{held_in, maps_count}
use Rattle.hp_laws.proofs.Variants.{Gone, Live, Place}
use Rattle.hp_model.proofs.Words.{Copy, Mapping, copy_of, file_has, file_pages, is_held_once, is_stamp, map_has, place_at, place_has, stamps_of}
use Rattle.hp_store.specs.Store.{Store, held_count, holders_of, page_at}
use Rattle.hp_lookup.proofs.Words.{IsHeld, NumberedFile, copy_shown, file_at, file_shown, files_shown, in_cell, in_map, in_place, map_among, map_shown, mapping_at, no_mapping, numbered_at, page_in}
use Rattle.hp_lookup.proofs.Words.{place_shown}
use Rattle.hp_file.specs.States.{AreAgreed, is_stamp_at}
use Rattle.hp_lookup.proofs.Cells.{file_is, no_file}
use Rattle.hp_file.proofs.Drops.{live_copy, place_inside}
use Rattle.hp_lookup.proofs.Lifting.{at_most, is_it}
use Rattle.hp_file.proofs.Placing.{none_or_some}
use Rattle.hp_file.proofs.PutCopy.{jl_in, mapping, seen_place, within, x_is}
use Rattle.hp_lookup.proofs.Stored.{stored_pages}
use Rattle.hp_lookup.proofs.Views.{copy_seen, no_copy_seen}

-- ---- by what is shown

sum_shown : {X Y : Type 0} (c : Y → ℕ) (d : X → ℕ) (f : X → Y) → ((x : X) → c (f x) ≡ d x) → (xs : List X) → sum_by c (map f xs) ≡ sum_by d xs
sum_shown c d f same [] = refl
sum_shown c d f same (x ∷ xs) =
    let here = same x in
    let rest = sum_shown c d f same xs in
    omega (arith, here, rest, sum_by-cons c (f x) (map f xs), sum_by-cons d x xs)

place_counts : (s : Store) (n : ℕ) (p : Place ℕ) → cond {A = ℕ} (place_has (is_stamp n) (place_shown s p)) 1 0 ≡ in_place n p
place_counts s n Gone = refl
place_counts s n (Live c None) = refl
place_counts s n (Live c (Some k)) = refl

map_counts : (s : Store) (n : ℕ) (m : Mapping ℕ) → held_in n (map_shown s m) ≡ in_map n m
map_counts s n m = sum_shown (λ p. cond {A = ℕ} (place_has (is_stamp n) p) 1 0) (in_place n) (place_shown s) (place_counts s n) m.places

stamp_counts : (s : Store) (n : ℕ) (f : NumberedFile) → count_by (λ q. q == n) (stamps_of (file_shown s f)) ≡ sum_by (in_map n) f.maps
stamp_counts s n f = maps_count n (map (map_shown s) f.maps) ∙ sum_shown (held_in n) (in_map n) (map_shown s) (map_counts s n) f.maps

-- ---- copies with one stamp are one page

module _ (s : Store) (q m : ℕ) where
  place_node : (p : Place ℕ) → place_has (is_stamp_at m q) (place_shown s p) ≡ true → (page_in (page_at s q)).node ≡ m
  place_node Gone e = cc
  place_node (Live c None) e = cc
  place_node (Live c (Some k)) e =
      let parts = and_parts ((page_in (page_at s k)).node == m) (k == q) e in
      ap (λ n. (page_in (page_at s n)).node) (sym (eqb-true k q parts.1)) ∙ eqb-true (page_in (page_at s k)).node m parts.0

  any_node : {X Y : Type 0} (f : X → Y) (has : Y → Bool) → ((x : X) → has (f x) ≡ true → (page_in (page_at s q)).node ≡ m) → (xs : List X) →
      list_any has (map f xs) ≡ true → (page_in (page_at s q)).node ≡ m
  any_node f has each [] e = cc
  any_node f has each (x ∷ xs) e = ⊎_elim (λ (l : has (f x) ≡ true). each x l) (λ (r : list_any has (map f xs) ≡ true). any_node f has each xs r) (or_cases (has (f x)) (list_any has (map f xs)) e)

  file_node : (f : NumberedFile) → file_has (is_stamp_at m q) (file_shown s f) ≡ true → (page_in (page_at s q)).node ≡ m
  file_node f e = any_node (map_shown s) (map_has (is_stamp_at m q)) (λ y. any_node (place_shown s) (place_has (is_stamp_at m q)) place_node y.places) f.maps e

pub agreed_shown : (s : Store) (f : NumberedFile) → AreAgreed (file_shown s f)
agreed_shown s f q m n a b = sym (file_node s q m f a) ∙ file_node s q n f b

-- ---- as code reads it

module _ (s : Store) (more : ℕ) (fs : List NumberedFile) (h : IsHeld s more fs) (k j i : ℕ) (l : k < length (files_shown s fs))
    (jl : j < length (file_at (files_shown s fs) k).maps) (x : NumberedFile) (read : x ≡ slice_index_or fs k x) where
  pub agreed_there : AreAgreed (file_at (files_shown s fs) k)
  agreed_there = subst AreAgreed (sym (file_is s fs k (within s more fs h k j i l jl x read))) (agreed_shown s (numbered_at fs k))

  pub few_there : held_count s.pages + s.room ≤ 2 ^ 32 → sum_by file_pages (files_shown s fs) + (s.room - more) ≤ 2 ^ 32
  few_there few = (let same = stored_pages s more fs h in let parts = h.parts in omega (arith, few, same, parts))

  module _ (y : Mapping ℕ) (map_read : y ≡ slice_index_or x.maps j y) where
    pub y_is : y ≡ mapping s more fs h k j i l jl x read
    y_is = map_read ∙ ap (λ (f : NumberedFile). slice_index_or f.maps j y) (x_is s more fs h k j i l jl x read)
        ∙ get_or_default (numbered_at fs k).maps j y no_mapping (jl_in s more fs h k j i l jl x read)

    pub no_copy : copy_of (place_at y i) ≡ None → copy_of (place_at (map_among (files_shown s fs) k j) i) ≡ None
    no_copy none = ap copy_of (seen_place s more fs h k j i l jl x read) ∙ no_copy_seen s (place_at (mapping s more fs h k j i l jl x read) i) (ap (λ m. copy_of (place_at m i)) (sym y_is) ∙ none)

    module _ (n : ℕ) (there : copy_of (place_at y i) ≡ Some n) where
      abbrev f : NumberedFile
      f = numbered_at fs k

      m : Mapping ℕ
      m = mapping s more fs h k j i l jl x read

      here : copy_of (place_at (mapping s more fs h k j i l jl x read) i) ≡ Some n
      here = ap (λ m. copy_of (place_at m i)) (sym y_is) ∙ there

      pub copy_there : copy_of (place_at (map_among (files_shown s fs) k j) i) ≡ Some (copy_shown s n)
      copy_there = ap copy_of (seen_place s more fs h k j i l jl x read) ∙ copy_seen s (place_at (mapping s more fs h k j i l jl x read) i) n here

      -- the number stands in one of the file's maps
      pub in_maps : 0 < sum_by (in_map n) f.maps
      in_maps = grind (arith, common_steps, mapping, place_inside, here, live_copy, is_it, at_most, m, jl_in)

      -- and in no cell
      pub no_cells : sum_by (in_cell n) f.cells ≡ 0
      no_cells = grind (arith, common_steps, within, in_maps, at_most, no_file, none_or_some)

      pub holders_counted : holders_of (page_at s n) ≡ count_by (λ q. q == n) (stamps_of (file_at (files_shown s fs) k))
      holders_counted = grind (arith, common_steps, within, in_maps, no_cells, file_is, stamp_counts)

      pub held_once : (b : Bool) → (holders_of (page_at s n) == 1) ≡ b → is_held_once (file_at (files_shown s fs) k) n ≡ b
      held_once b e = ap (λ c. c == 1) (sym holders_counted) ∙ e

      pub stamp_there : (copy : Copy) → copy_of (place_at (map_among (files_shown s fs) k j) i) ≡ Some copy → copy.stamp ≡ n
      stamp_there copy e = stamp_is copy (copy_shown s n) (sym e ∙ copy_there)
        where
          stamp_is : (a b : Copy) → Some a ≡ Some b → a.stamp ≡ b.stamp
          stamp_is a b e = cc

  -- the number of a copy that is shown
  shown_number : (p : Place ℕ) (copy : Copy) → copy_of (place_shown s p) ≡ Some copy → (q : ℕ) × (copy_of p ≡ Some q)
  shown_number Gone copy e = cc
  shown_number (Live c None) copy e = cc
  shown_number (Live c (Some q)) copy e = (q, refl)

  pub number_there : (copy : Copy) → copy_of (place_at (map_among (files_shown s fs) k j) i) ≡ Some copy → (q : ℕ) × (copy_of (place_at (mapping_at x j) i) ≡ Some q)
  number_there copy e =
      let m : Mapping ℕ = mapping s more fs h k j i l jl x read in
      let found = shown_number (place_at m i) copy (ap copy_of (sym (seen_place s more fs h k j i l jl x read)) ∙ e) in
      (found.0, ap (λ (f : NumberedFile). copy_of (place_at (mapping_at f j) i)) (x_is s more fs h k j i l jl x read) ∙ found.1)

  -- the map that code reads
  pub jl_read : j < length x.maps
  jl_read = subst (λ (f : NumberedFile). j < length f.maps) (sym (x_is s more fs h k j i l jl x read)) (jl_in s more fs h k j i l jl x read)

  pub map_reads : mapping_at x j ≡ slice_index_or x.maps j (mapping_at x j)
  map_reads = get_or_default x.maps j no_mapping (mapping_at x j) jl_read
