-- A file with one map more: its usage is higher by what the map asks for.
use Rattle.std.proofs.lemmas.Grind.{common_steps}
use Rattle.std.proofs.Common.{◌≡◌, ℕ, zero, suc, ◌+◌, ◌-◌, Bool, false, ◌||◌, ◌==◌, None, List, [], ◌∷◌, ◌++◌, map, take, drop, replicate, refl, ap, ◌∙◌, cond, arith, count_by}
use Rattle.std.specs.List.{list_any}
use Rattle.std.proofs.lemmas.List.Folds.{list_any-append}
use Rattle.std.proofs.lemmas.List.Sums.{sum_by-append, sum_by-take-drop, sum_by-cons}
use Rattle.hp_laws.proofs.Variants.{Cell, Entered, Hole, Live, NoReserve, Private, Reserve, Reserving, Shared, Sharing}
use Rattle.hp_model.proofs.Words.{Copy, File, Map, Page, asked, at_least, cells_mapped, edit_range, entered, file_has, has_page, is_hole, is_page_at, is_unconsumed, is_waiting, map_has, mapped}
use Rattle.hp_model.proofs.Words.{new_map, owner_reserves, place_has}
use Rattle.hp_laws.proofs.counts.FileMoves.{FileGrows, spent}
use Rattle.hp_laws.proofs.counts.CopiesHeld.{stamps_stay, stamps_at_stay}
use Rattle.hp_laws.proofs.lists.Places.{sum_by-map_same}
use Rattle.hp_model.proofs.Editing.{sum_by-edit_range}
use Rattle.hp_laws.proofs.lists.AtMostOne.{bit}

-- the cells, and how many of them wait for a page more than before
pub record CellsWait (xs ys : List (Cell Page)) (u : ℕ) : Type 0 where
  pub pages : count_by has_page ys ≡ count_by has_page xs
  pub waits : count_by is_waiting ys ≡ count_by is_waiting xs + u
  pub each : (n : ℕ) → count_by (is_page_at n) ys ≡ count_by (is_page_at n) xs

pub cells_longer : (n : ℕ) (xs : List (Cell Page)) → CellsWait xs (at_least n xs) 0
cells_longer n xs = grind (arith, common_steps)

entered_same : (test : Cell Page → Bool) → test Entered ≡ test Hole → (x : Cell Page) → bit (test (entered x)) ≡ bit (test x)
entered_same test e x = grind arith

wait_one : (x : Cell Page) → bit (is_waiting (entered x)) ≡ bit (is_waiting x) + bit (is_hole x)
wait_one x = grind arith

wait_more : (xs : List (Cell Page)) → count_by is_waiting (map entered xs) ≡ count_by is_waiting xs + count_by is_hole xs
wait_more [] = refl
wait_more (x ∷ xs) =
    omega (
      arith,
      sum_by-cons (λ x. cond (is_waiting x) 1 0) (entered x) (map entered xs),
      sum_by-cons (λ x. cond (is_waiting x) 1 0) x xs,
      sum_by-cons (λ x. cond (is_hole x) 1 0) x xs,
      wait_one x,
      wait_more xs,
    )

range_same : (test : Cell Page → Bool) → test Entered ≡ test Hole → (a b : ℕ) (xs : List (Cell Page)) → count_by test (edit_range entered a b xs) ≡ count_by test xs
range_same test e a b xs = grind (arith, bit, sum_by-edit_range, sum_by-map_same, entered_same, sum_by-take-drop)

range_waits : (a b : ℕ) (xs : List (Cell Page)) → count_by is_waiting (edit_range entered a b xs) ≡ count_by is_waiting xs + count_by is_hole (take (b - a) (drop a xs))
range_waits a b xs = grind (arith, bit, sum_by-edit_range, wait_more, sum_by-take-drop)

width : (a n : ℕ) → (a + n) - a ≡ n
width a n = omega arith

cells_entered : (a n : ℕ) (xs : List (Cell Page)) → CellsWait xs (edit_range entered a (a + n) (at_least (a + n) xs)) (count_by is_hole (take n (drop a (at_least (a + n) xs))))
cells_entered a n xs =
    let ys : List (Cell Page) = at_least (a + n) xs in
    let long = cells_longer (a + n) xs in
    let waits = range_waits a (a + n) ys in
    let wide = ap (λ k. count_by is_hole (take k (drop a ys))) (width a n) in
    record {
      pages = range_same has_page refl a (a + n) ys ∙ long.pages;
      waits = omega (arith, waits, wide, long.waits);
      each = λ k. range_same (is_page_at k) refl a (a + n) ys ∙ long.each k;
    }

-- ---- the new map

holds_none : (t : ℕ → ℕ → Bool) (n : ℕ) → list_any (place_has t) (replicate n (Live false None)) ≡ false
holds_none t zero = refl
holds_none t (suc n) = holds_none t n

owes_all : (n : ℕ) → count_by (is_unconsumed {C = Copy}) (replicate n (Live false None)) ≡ n
owes_all n = grind (arith, common_steps)

or_none : (a b : Bool) → b ≡ false → (a || (b || false)) ≡ a
or_none a b e = grind arith

map_more : (f : File) (cells : List (Cell Page)) (m : Map) (u w : ℕ) → CellsWait f.cells cells w → ((t : ℕ → ℕ → Bool) → map_has t m ≡ false) → owner_reserves m + w ≡ u
    → FileGrows f (record f { cells = cells; maps = f.maps ++ m ∷ [] }) 0 0 u
map_more f cells m u w wait none owes =
    let g : File = record f { cells = cells; maps = f.maps ++ m ∷ [] } in
    let has = λ (t : ℕ → ℕ → Bool). list_any-append (map_has t) f.maps (m ∷ []) ∙ or_none (file_has t f) (map_has t m) (none t) in
    let stamps = stamps_stay f g has in
    let sums = sum_by-append owner_reserves f.maps (m ∷ []) in
    let one = sum_by-cons owner_reserves m [] in
    record {
      pages = omega (arith, stamps, wait.pages);
      usage = omega (arith, stamps, wait.pages, wait.waits, sums, one, owes);
      each = λ n. omega (arith, stamps_at_stay n f g has, wait.each n, spent (0 == n));
    }

pub mapped_grows : (task number a n : ℕ) (sharing : Sharing) (reserving : Reserving) (f : File) → FileGrows f (mapped task number a n sharing reserving f) 0 0 (asked sharing reserving a n f)
mapped_grows task number a n Shared Reserve f =
    map_more f (cells_mapped Shared Reserve a n f.cells) (new_map task number a n Shared Reserve) _ _ (cells_entered a n f.cells) (λ t. holds_none t n) (omega arith)
mapped_grows task number a n Private Reserve f =
    map_more f (cells_mapped Private Reserve a n f.cells) (new_map task number a n Private Reserve) n 0 (cells_longer (a + n) f.cells) (λ t. holds_none t n) (omega (arith, owes_all n))
mapped_grows task number a n Shared NoReserve f =
    map_more f (cells_mapped Shared NoReserve a n f.cells) (new_map task number a n Shared NoReserve) 0 0 (cells_longer (a + n) f.cells) (λ t. holds_none t n) (omega arith)
mapped_grows task number a n Private NoReserve f =
    map_more f (cells_mapped Private NoReserve a n f.cells) (new_map task number a n Private NoReserve) 0 0 (cells_longer (a + n) f.cells) (λ t. holds_none t n) (omega arith)
