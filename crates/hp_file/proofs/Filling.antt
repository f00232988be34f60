use Rattle.std.proofs.lemmas.Grind.{common_steps}
-- Indices of a file get entries, and those without a page pages of zeros.
use Rattle.std.proofs.Common.{◌≡◌, ℕ, zero, suc, ◌+◌, ◌-◌, ◌<◌, ◌≤◌, true, cond, Option, None, List, [], ◌∷◌, ◌++◌, length, map, take, drop, replicate, refl, sym, ap, ◌∙◌, arith, false, not, is_some}
use Rattle.std.proofs.Common.{slice_index_or, slice_set, count_by, sum_by}
use Rattle.std.proofs.lemmas.List.{get_or-drop, get_or-take, get_or-set_same, length-append, length-drop, length-map, length-replicate, length-take, map-append, map-set, set-set, take_more}
use Rattle.std.proofs.lemmas.Simd.{map-map}
use Rattle.std.proofs.lemmas.List.Sums.{sum_by-append, sum_by-cons}
use Rattle.std.proofs.Math.Seq.{drop-append_seam, take-append_seam}
use Rattle.hp_laws.proofs.Variants.{Cell, Entered, Hole, Present}
use Rattle.hp_model.proofs.Words.{File, Page, at_least, cell_at, cell_in, edit_range, entered, has_page, is_entered, lacking, lacks_page, new_file, page_of, part, range_filled, rising_nodes}
use Rattle.hp_model.proofs.Words.{zero_page}
use Rattle.hp_model.proofs.Counting.{count_alike, count_cons, count_map}
use Rattle.hp_model.proofs.Editing.{get_or-edit_within}
use Rattle.hp_laws.proofs.lists.NodesOf.{length-nodes_of}
use Rattle.hp_mount_door.specs.Door.{by_node}
use Rattle.hp_mount_door.specs.Filling.{AreRising}
use Rattle.hp_store.specs.Store.{Store}
use Rattle.hp_lookup.proofs.Words.{Files, IsHeld, NumberedFile, cell_shown, file_at, file_shown, files_shown, in_cell, in_file, numbered_at}
use Rattle.hp_file.specs.Filling.{entered_at, pages_put, with_entries, with_zeros, zeros_at}
use Rattle.hp_lookup.proofs.Alike.{alike_held}
use Rattle.hp_lookup.proofs.Cells.{file_is}
use Rattle.hp_lookup.proofs.Mapped.{map_drop, map_edited, map_replicate, map_take, sum_edited}
use Rattle.hp_lookup.proofs.Views.{read_is, view}
use Rattle.hp_file.proofs.Zeros.{filled_entered, lacks_entered, zeros_of}
use Rattle.hp_lookup.proofs.Mapped.{entered_counts, entered_shown}

-- ---- how many indices of a range have no page

module _ {P : Type 0} where
  -- past the end there is none
  longer_read : (cells : List (Cell P)) (r i : ℕ) → cell_in (cells ++ replicate r Hole) i ≡ cell_in cells i
  longer_read [] zero i = refl
  longer_read [] (suc r) zero = refl
  longer_read [] (suc r) (suc i) = longer_read [] r i
  longer_read (c ∷ cells) r zero = refl
  longer_read (c ∷ cells) r (suc i) = longer_read cells r i

  longer_length : (cells : List (Cell P)) (b : ℕ) → b ≤ length (at_least b cells)
  longer_length cells b = omega (arith, length-append cells (replicate (b - length cells) Hole), length-replicate {A = Cell P} (b - length cells) Hole)

  -- a part of a list, an index further on
  part_more : (xs : List (Cell P)) (a i : ℕ) → a ≤ i → i < length xs → part a (i + 1) xs ≡ part a i xs ++ cell_in xs i ∷ []
  part_more xs a i low within =
      let n : i + 1 - a ≡ i - a + 1 = omega (arith, low) in
      let at : a + (i - a) ≡ i = omega (arith, low) in
      ap (λ k. take k (drop a xs)) n ∙ take_more (drop a xs) (i - a) Hole (omega (arith, low, within, length-drop a xs))
      ∙ ap (λ c. part a i xs ++ c ∷ []) (get_or-drop a xs (i - a) Hole ∙ ap (cell_in xs) at)

  -- the part of a list that was edited
  part_edited : (h : Cell P → Cell P) (a b : ℕ) (xs : List (Cell P)) → b ≤ length xs → a ≤ b → part a b (edit_range h a b xs) ≡ map h (part a b xs)
  part_edited h a b xs long order = grind (arith, common_steps, length-take, length-map, length-drop, drop-append_seam, take-append_seam)

  lacks_by : (c : Cell P) (o : Option P) → o ≡ page_of c → cond (is_some o) 0 1 ≡ cond {A = ℕ} (lacks_page c) 1 0
  lacks_by Hole o e = ap (λ o. cond {A = ℕ} (is_some o) 0 1) e
  lacks_by Entered o e = ap (λ o. cond {A = ℕ} (is_some o) 0 1) e
  lacks_by (Present p) o e = ap (λ o. cond {A = ℕ} (is_some o) 0 1) e

-- where no index lacks a page, each has one
module _ {P : Type 0} where
  none_lacking : (cells : List (Cell P)) (k : ℕ) → count_by lacks_page cells ≡ 0 → k < length cells → has_page (cell_in cells k) ≡ true
  none_lacking [] k none within = absurd (omega (arith, within))
  none_lacking (c ∷ cells) zero none within = elim (has_page c) as (λ t. has_page c ≡ t → has_page c ≡ true) [
    | true ↦ λ is. is
    | false ↦ λ is. (let one = ap {B = ℕ} (λ t. cond (not t) 1 0) is in absurd (omega (arith, none, one, count_cons lacks_page c cells)))
  ] refl
  none_lacking (c ∷ cells) (suc k) none within = none_lacking cells k (omega (arith, none, count_cons lacks_page c cells)) (omega (arith, within))

  pub all_paged : (cells : List (Cell P)) (a b : ℕ) → count_by lacks_page (part a b (at_least b cells)) ≡ 0 → (j : ℕ) → a ≤ j → j < b → has_page (cell_in cells j) ≡ true
  all_paged cells a b none j low high =
      let xs : List (Cell P) = at_least b cells in
      let long = longer_length cells b in
      let k : ℕ = j - a in
      let at : a + k ≡ j = omega (arith, low) in
      let wide = length-take (b - a) (drop a xs) in
      let here : cell_in (part a b xs) k ≡ cell_in cells j =
      get_or-take (b - a) (drop a xs) k Hole (omega (arith, low, high)) ∙ get_or-drop a xs k Hole ∙ ap (cell_in xs) at ∙ longer_read cells (b - length cells) j in
      ap has_page (sym here) ∙ none_lacking (part a b xs) k none (omega (arith, wide, length-drop a xs, long, low, high))

-- ---- what is shown

lacks_shown : (s : Store) (c : Cell ℕ) → lacks_page (cell_shown s c) ≡ lacks_page c
lacks_shown s Hole = refl
lacks_shown s Entered = refl
lacks_shown s (Present n) = refl

longer_shown : (s : Store) (b : ℕ) (cells : List (Cell ℕ)) → map (cell_shown s) (at_least b cells) ≡ at_least b (map (cell_shown s) cells)
longer_shown s b cells = grind (arith, common_steps, map-append, map_replicate, length-map)

pub lacking_shown : (s : Store) (fs : List NumberedFile) (k a b : ℕ) → k < length fs
    → count_by lacks_page (part a b (at_least b (numbered_at fs k).cells)) ≡ lacking a b (file_at (files_shown s fs) k)
lacking_shown s fs k a b l =
    let cells : List (Cell ℕ) = (numbered_at fs k).cells in
    sym (count_map lacks_page (cell_shown s) (part a b (at_least b cells)) ∙ count_alike (λ c. lacks_page (cell_shown s c)) lacks_page (lacks_shown s) (part a b (at_least b cells)))
    ∙ ap (count_by lacks_page) (map_take (cell_shown s) (b - a) (drop a (at_least b cells))
    ∙ ap (take (b - a)) (map_drop (cell_shown s) a (at_least b cells) ∙ ap (drop a) (longer_shown s b cells)))
    ∙ ap (lacking a b) (sym (file_is s fs k l))

-- ---- a range is entered: x is what code read, and g what it leaves

module _ (s : Store) (more : ℕ) (fs : List NumberedFile) (h : IsHeld s more fs) (k a b : ℕ) (l : k < length fs) (x g : NumberedFile)
    (read : x ≡ slice_index_or fs k x) (g_is : g ≡ record x { cells = edit_range entered a b (at_least b x.cells) }) where
  at : x ≡ numbered_at fs k
  at = read_is fs k x l read

  cells_count : (n : ℕ) → sum_by (in_cell n) (edit_range entered a b (at_least b x.cells)) ≡ sum_by (in_cell n) x.cells
  cells_count n =
      let whole = sum_by-append (in_cell n) x.cells (replicate (b - length x.cells) Hole) in
      let none = holes_count (b - length x.cells) in
      sum_edited (in_cell n) entered (entered_counts n) a b (at_least b x.cells) ∙ omega (arith, whole, none)
    where
      holes_count : (r : ℕ) → sum_by (in_cell n) (replicate r Hole) ≡ 0
      holes_count zero = refl
      holes_count (suc r) = (let rest = holes_count r in omega (arith, rest, sum_by-cons (in_cell n) Hole (replicate r Hole)))

  pub range_held : IsHeld s more (slice_set fs k g)
  range_held = alike_held s more fs h k l g
      (λ n. ap (λ (f : NumberedFile). sum_by (in_cell n) f.cells) g_is ∙ cells_count n ∙ ap (λ (f : NumberedFile). sum_by (in_cell n) f.cells) at)
      (λ n. (let cells = cells_count n in let same = ap (in_file n) at in ap (in_file n) g_is ∙ omega (arith, cells, same)))

  range_shown : file_shown s g ≡ with_entries a b (file_shown s x)
  range_shown =
      ap (file_shown s) g_is
      ∙ ap (λ cs. record (file_shown s x) { cells = cs }) (map_edited (cell_shown s) entered entered (entered_shown s) a b (at_least b x.cells)
      ∙ ap (edit_range entered a b) (longer_shown s b x.cells))

  pub range_view : view s more (slice_set fs k g) ≡ entered_at k a b (s.room - more) (view s more fs)
  range_view = grind (arith, common_steps, view, map-set, range_shown, at, file_is)

-- ---- the pages that were taken are put

-- so many pages as were asked for
pub rising_length : (count : ℕ) (pages : List Page) → AreRising count pages → length pages ≡ count
rising_length count pages rising = sym (length-map pages (λ (p : Page). p.node)) ∙ ap length rising ∙ length-nodes_of count (by_node pages)

module _ (size k a b : ℕ) (v : Files) (l : k < length v.files) (order : a ≤ b) where
  abbrev f : File
  f = file_at v.files k

  abbrev xs : List (Cell Page)
  xs = at_least b f.cells

  long : b ≤ length xs
  long = longer_length f.cells b

  module _ (room : ℕ) where
    -- the file with its entries
    pub there : file_at (entered_at k a b room v).files k ≡ with_entries a b f
    there = get_or-set_same v.files k (with_entries a b f) (new_file None) l

    pub entries_there : (i : ℕ) → a ≤ i → i < b → is_entered (cell_at (file_at (entered_at k a b room v).files k) i) ≡ true
    entries_there i low high = ap (λ (g : File). is_entered (cell_at g i)) there ∙ ap is_entered (get_or-edit_within entered a b xs i Hole low high long) ∙ is (cell_in xs i)
      where
        is : (c : Cell Page) → is_entered (entered c) ≡ true
        is Hole = refl
        is Entered = refl
        is (Present p) = refl

    pub lacking_there : (count : ℕ) → count ≡ lacking a b f → count ≡ count_by lacks_page (part a b (file_at (entered_at k a b room v).files k).cells)
    lacking_there count is = grind (arith, common_steps, there, part_edited, long, count_map, count_alike, lacks_entered)

    module _ (count : ℕ) (pages : List Page) (rising : AreRising count pages) (count_is : count ≡ lacking a b f) where
      zeros_are : zeros_of size pages ≡ map (zero_page size) (rising_nodes count (by_node pages))
      zeros_are = sym (map-map (zero_page size) (λ (p : Page). p.node) pages) ∙ ap (map (zero_page size)) rising

      wide : length (zeros_of size pages) ≡ count_by lacks_page (part a b xs)
      wide = length-map pages (λ (p : Page). zero_page size p.node) ∙ rising_length count pages rising ∙ count_is

      file_filled : with_zeros size a pages (file_at (entered_at k a b room v).files k) ≡ range_filled size a b (rising_nodes count (by_node pages)) f
      file_filled = grind (arith, common_steps, there, filled_entered, zeros_of, long, wide, zeros_are)

      pub all_filled : zeros_at size k a pages (entered_at k a b room v) ≡ pages_put size k a b (rising_nodes count (by_node pages)) (room - count) v
      all_filled = grind (arith, common_steps, file_filled, set-set, rising_length)
