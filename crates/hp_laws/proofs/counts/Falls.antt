-- What only gives back: no count of a file or a mount is higher after it.
use Rattle.std.proofs.lemmas.Grind.{common_steps}
use Rattle.std.proofs.Common.{◌≡◌, ⊎_elim, ℕ, zero, suc, ◌+◌, ◌-◌, ◌≤◌, Bool, true, false, not, List, [], ◌∷◌, ◌++◌, length, map, take, drop, refl, sym, ◌∙◌, cond, arith, if◌then◌else◌, sum_by}
use Rattle.std.proofs.Common.{count_by, filter}
use Rattle.std.specs.List.{list_any}
use Rattle.std.proofs.lemmas.Bool.{or_left, or_right, or_cases}
use Rattle.std.proofs.lemmas.List.Folds.{list_any-append}
use Rattle.std.proofs.lemmas.List.Sums.{sum_by-append, sum_by-take-drop, sum_by-cons}
use Rattle.hp_model.proofs.Words.{Copy, File, Map, Page, cell_punched, cells_to, edit_range, file_forked, file_pages, file_pages_at, file_reserves, file_unmapped, file_without, has_page, is_left}
use Rattle.hp_model.proofs.Words.{is_of, is_page_at, is_unconsumed, is_waiting, map_for, map_has, map_punched, map_unmapped, owner_reserves, place_has, punched, truncated, unconsumed, unlinked}
use Rattle.hp_model.proofs.Words.{without_copy, without_range}
use Rattle.hp_laws.proofs.Variants.{Cell, Entered, Gone, Hole, Place}
use Rattle.hp_laws.proofs.counts.CopiesHeld.{stamps_fall, stamps_at_fall}
use Rattle.hp_laws.proofs.lists.Places.{any_map_down, any_filter, sum_by-map_le, sum_by-filter_le}
use Rattle.hp_model.proofs.Editing.{sum_by-edit_range}
use Rattle.hp_laws.proofs.lists.AtMostOne.{bit}

pub record FileFalls (f g : File) : Type 0 where
  pub pages : file_pages g ≤ file_pages f
  pub reserves : file_reserves g ≤ file_reserves f
  pub each : (n : ℕ) → file_pages_at n g ≤ file_pages_at n f

-- by the cells and by the maps
pub record CellsFall (xs ys : List (Cell Page)) : Type 0 where
  pub pages : count_by has_page ys ≤ count_by has_page xs
  pub waits : count_by is_waiting ys ≤ count_by is_waiting xs
  pub each : (n : ℕ) → count_by (is_page_at n) ys ≤ count_by (is_page_at n) xs

pub record MapsFall (xs ys : List Map) : Type 0 where
  pub has : (t : ℕ → ℕ → Bool) → list_any (map_has t) ys ≡ true → list_any (map_has t) xs ≡ true
  pub reserves : sum_by owner_reserves ys ≤ sum_by owner_reserves xs

pub file_falls : (f g : File) → CellsFall f.cells g.cells → MapsFall f.maps g.maps → FileFalls f g
file_falls f g cells maps =
    let stamps = stamps_fall f g maps.has in
    record {
      pages = omega (arith, stamps, cells.pages);
      reserves = omega (arith, cells.waits, maps.reserves);
      each = λ n. omega (arith, stamps_at_fall n f g maps.has, cells.each n);
    }

same_cells : (xs : List (Cell Page)) → CellsFall xs xs
same_cells xs = record { pages = omega arith; waits = omega arith; each = λ n. omega arith }

same_maps : (xs : List Map) → MapsFall xs xs
same_maps xs = record { has = λ t e. e; reserves = omega arith }

-- ---- ranges

any_take : {X : Type 0} (p : X → Bool) (n : ℕ) (xs : List X) → list_any p (take n xs) ≡ true → list_any p xs ≡ true
any_take p zero xs e = cc
any_take p (suc n) [] e = e
any_take p (suc n) (x ∷ xs) e = ⊎_elim (λ l. or_left (p x) _ l) (λ r. or_right (p x) _ (any_take p n xs r)) (or_cases (p x) (list_any p (take n xs)) e)

any_drop : {X : Type 0} (p : X → Bool) (n : ℕ) (xs : List X) → list_any p (drop n xs) ≡ true → list_any p xs ≡ true
any_drop p zero xs e = e
any_drop p (suc n) [] e = e
any_drop p (suc n) (x ∷ xs) e = or_right (p x) _ (any_drop p n xs e)

any_append : {X : Type 0} (p : X → Bool) (xs ys : List X) (P : Type 0) → (list_any p xs ≡ true → P) → (list_any p ys ≡ true → P) → list_any p (xs ++ ys) ≡ true → P
any_append p xs ys P f g e = ⊎_elim f g (or_cases (list_any p xs) (list_any p ys) (sym (list_any-append p xs ys) ∙ e))

any_edit_range : {X : Type 0} (p : X → Bool) (f : X → X) → ((x : X) → p (f x) ≡ true → p x ≡ true) → (a b : ℕ) (xs : List X) → list_any p (edit_range f a b xs) ≡ true → list_any p xs ≡ true
any_edit_range p f h a b xs e =
    any_append p (take a xs ++ map f (take (b - a) (drop a xs))) (drop (b - a) (drop a xs)) (list_any p xs ≡ true)
    (any_append p (take a xs) (map f (take (b - a) (drop a xs))) (list_any p xs ≡ true) (any_take p a xs)
    (λ m. any_drop p a xs (any_take p (b - a) (drop a xs) (any_map_down p p f h (take (b - a) (drop a xs)) m))))
    (λ r. any_drop p a xs (any_drop p (b - a) (drop a xs) r)) e

sum_by-edit_range_le : {X : Type 0} (g : X → ℕ) (f : X → X) → ((x : X) → g (f x) ≤ g x) → (a b : ℕ) (xs : List X) → sum_by g (edit_range f a b xs) ≤ sum_by g xs
sum_by-edit_range_le g f h a b xs = grind (arith, sum_by-edit_range, sum_by-map_le, sum_by-take-drop)

-- ---- punched and cut

hole_least : (test : Cell Page → Bool) → test Hole ≡ false → test Entered ≡ test Entered → (x : Cell Page) → bit (test (cell_punched x)) ≤ bit (test x)
hole_least test none same x = grind arith

cells_punched : (a b : ℕ) (xs : List (Cell Page)) → CellsFall xs (edit_range cell_punched a b xs)
cells_punched a b xs = grind (arith, sum_by-edit_range_le, hole_least)

cut_le : (test : Cell Page → Bool) → test Hole ≡ false → (n : ℕ) (xs : List (Cell Page)) → count_by test (cells_to n xs) ≤ count_by test xs
cut_le test none n xs = grind (arith, common_steps)

cells_cut : (n : ℕ) (xs : List (Cell Page)) → CellsFall xs (cells_to n xs)
cells_cut n xs = record { pages = cut_le has_page refl n xs; waits = cut_le is_waiting refl n xs; each = λ k. cut_le (is_page_at k) refl n xs }

copy_down : (t : ℕ → ℕ → Bool) (p : Place Copy) → place_has t (without_copy p) ≡ true → place_has t p ≡ true
copy_down t p e = grind arith

owed_if : (b : Bool) (x y : ℕ) → x ≤ y → cond b x 0 ≤ cond b y 0
owed_if b x y l = grind arith

copy_owes : (p : Place Copy) → bit (is_unconsumed (without_copy p)) ≤ bit (is_unconsumed p)
copy_owes p = grind arith

-- each map falls
maps_fall : (h : Map → Map) → ((t : ℕ → ℕ → Bool) (m : Map) → map_has t (h m) ≡ true → map_has t m ≡ true) →
    ((m : Map) → owner_reserves (h m) ≤ owner_reserves m) → (xs : List Map) → MapsFall xs (map h xs)
maps_fall h has owes xs = record { has = λ t. any_map_down (map_has t) (map_has t) h (has t) xs; reserves = sum_by-map_le owner_reserves h owes xs }

punched_has : (a b : ℕ) (t : ℕ → ℕ → Bool) (m : Map) → map_has t (map_punched a b m) ≡ true → map_has t m ≡ true
punched_has a b t m = any_edit_range (place_has t) without_copy (copy_down t) (a - m.start) (b - m.start) m.places

punched_owes : (a b : ℕ) (m : Map) → owner_reserves (map_punched a b m) ≤ owner_reserves m
punched_owes a b m = grind (arith, owed_if, sum_by-edit_range_le, copy_owes)

pub punched_falls : (a b : ℕ) (f : File) → FileFalls f (punched a b f)
punched_falls a b f = file_falls f (punched a b f) (cells_punched a b f.cells) (maps_fall (map_punched a b) (punched_has a b) (punched_owes a b) f.maps)

pub truncated_falls : (n : ℕ) (f : File) → FileFalls f (truncated n f)
truncated_falls n f =
    file_falls f (truncated n f) (cells_cut n f.cells) (maps_fall (map_punched n (n + length f.cells)) (punched_has n (n + length f.cells)) (punched_owes n (n + length f.cells)) f.maps)

pub unlinked_falls : (f : File) → FileFalls f (unlinked f)
unlinked_falls f = file_falls f (unlinked f) (same_cells f.cells) (same_maps f.maps)

-- ---- unmapped, left and forked

gone_down : (t : ℕ → ℕ → Bool) (p : Place Copy) → place_has t Gone ≡ true → place_has t p ≡ true
gone_down t p e = cc

gone_owes : (p : Place Copy) → bit (is_unconsumed {C = Copy} Gone) ≤ bit (is_unconsumed p)
gone_owes p = omega arith

range_has : (a b : ℕ) (t : ℕ → ℕ → Bool) (m : Map) → map_has t (without_range a b m) ≡ true → map_has t m ≡ true
range_has a b t m = any_edit_range (place_has t) (λ p. Gone) (gone_down t) (a - m.start) (b - m.start) m.places

range_owes : (a b : ℕ) (m : Map) → owner_reserves (without_range a b m) ≤ owner_reserves m
range_owes a b m = grind (arith, owed_if, sum_by-edit_range_le, gone_owes)

range_has_if : (d : Bool) (a b : ℕ) (t : ℕ → ℕ → Bool) (m : Map) → map_has t (if d then without_range a b m else m) ≡ true → map_has t m ≡ true
range_has_if true a b t m e = range_has a b t m e
range_has_if false a b t m e = e

range_owes_if : (d : Bool) (a b : ℕ) (m : Map) → owner_reserves (if d then without_range a b m else m) ≤ owner_reserves m
range_owes_if d a b m = grind (arith, range_owes)

maps_filtered : (test : Map → Bool) (xs ys : List Map) → MapsFall xs ys → MapsFall xs (filter test ys)
maps_filtered test xs ys fall = grind (arith, any_filter, sum_by-filter_le)

pub unmapped_falls : (test : Map → Bool) (a b : ℕ) (f : File) → FileFalls f (file_unmapped test a b f)
unmapped_falls test a b f =
    file_falls f (file_unmapped test a b f) (same_cells f.cells)
    (maps_filtered (is_left test) f.maps (map (map_unmapped test a b) f.maps)
    (maps_fall (map_unmapped test a b) (λ t m. range_has_if (test m) a b t m) (λ m. range_owes_if (test m) a b m) f.maps))

pub without_falls : (task : ℕ) (f : File) → FileFalls f (file_without task f)
without_falls task f = file_falls f (file_without task f) (same_cells f.cells) (maps_filtered (λ m. not (is_of task m)) f.maps f.maps (same_maps f.maps))

fresh_has : (t : ℕ → ℕ → Bool) (p : Place Copy) → place_has t (unconsumed p) ≡ true → place_has t p ≡ true
fresh_has t p e = grind arith

child_owes : (child : ℕ) (ms : List Map) → sum_by owner_reserves (map (map_for child) ms) ≡ 0
child_owes child [] = refl
child_owes child (m ∷ ms) = omega (arith, sum_by-cons owner_reserves (map_for child m) (map (map_for child) ms), child_owes child ms)

pub forked_falls : (parent child : ℕ) (f : File) → FileFalls f (file_forked parent child f)
forked_falls parent child f =
    let kept : List Map = filter (λ m. not (is_of child m)) f.maps in
    let ours : List Map = filter (is_of parent) f.maps in
    file_falls f (file_forked parent child f) (same_cells f.cells) record {
      has = λ t. any_append (map_has t) kept (map (map_for child) ours) (list_any (map_has t) f.maps ≡ true) (any_filter (map_has t) (λ m. not (is_of child m)) f.maps)
          (λ r. any_filter (map_has t) (is_of parent) f.maps (any_map_down (map_has t) (map_has t) (map_for child)
          (λ m. any_map_down (place_has t) (place_has t) unconsumed (fresh_has t) m.places) ours r));
      reserves = (let parts = sum_by-append owner_reserves kept (map (map_for child) ours) in
          let less = sum_by-filter_le owner_reserves (λ m. not (is_of child m)) f.maps in
          omega (arith, parts, less, child_owes child ours));
    }
