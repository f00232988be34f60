use Rattle.std.proofs.lemmas.Grind.{common_steps}
-- What each call shows, by the parts that it changed.
use Rattle.std.proofs.Common.{◌≡◌, ℕ, zero, suc, ◌-◌, ◌<◌, Option, None, Some, List, [], ◌∷◌, length, map, refl, sym, ap, ◌∙◌, arith, slice_set, slice_index_or, option_map, count_by}
use Rattle.std.proofs.lemmas.List.{get_or_default, get_or-map, length-map}
use Rattle.hp_laws.proofs.Variants.{Cell, Entered, Gone, Hole, Live, Place, Present}
use Rattle.hp_model.proofs.Words.{Copy, Mapping, Page, cell_at, cell_in, cell_written, copy_of, has_page, is_entered, new_file, page_of, place_at, shown, value, zeros}
use Rattle.hp_lookup.proofs.Words.{Files, IsHeld, NumberedFile, cell_shown, copy_shown, file_at, file_shown, files_shown, filled_at, in_files, map_among, map_shown, numbered_at, page_in, place_shown}
use Rattle.hp_lookup.proofs.Words.{with_cell_at}
use Rattle.std.proofs.Math.ListN as listn
use Rattle.hp_store.specs.Store.{Store, Holding, page_at, holders_of, bytes_of, inserted}
use Rattle.hp_store.specs.Store as store
use Rattle.hp_lookup.proofs.Keys.{set_read}
use Rattle.hp_lookup.proofs.Lifting.{at_most, is_it}
use Rattle.hp_model.proofs.Counting.{count_alike, count_map}
use Rattle.hp_lookup.proofs.Cells.{no_file, file_is, cell_is, with_number, fill_shows, fill_held, inserted_agrees, inserted_is, inserted_more, free_is_fresh, write_shows}

abbrev pub view : Store → ℕ → List NumberedFile → Files
view s more fs = record { files = files_shown s fs; going = s.going; room = s.room - more }

pub entered_is : (s : Store) (c : Cell ℕ) → cell_shown s c ≡ Entered → c ≡ Entered
entered_is s Hole e = cc
entered_is s Entered e = refl
entered_is s (Present n) e = cc

-- what code reads at a place, with what it read as the default
pub read_is : (fs : List NumberedFile) (k : ℕ) (x : NumberedFile) → k < length fs → x ≡ slice_index_or fs k x → x ≡ numbered_at fs k
read_is fs k x l e = e ∙ get_or_default fs k x no_file l

pub cell_at_is : (s : Store) (fs : List NumberedFile) (k i : ℕ) → k < length fs → cell_at (file_at (files_shown s fs) k) i ≡ cell_shown s (cell_in (numbered_at fs k).cells i)
cell_at_is s fs k i l = ap (λ f. cell_at f i) (file_is s fs k l) ∙ cell_is s (numbered_at fs k) i

pub cells_len : (s : Store) (fs : List NumberedFile) (k : ℕ) → k < length fs → length (file_at (files_shown s fs) k).cells ≡ length (numbered_at fs k).cells
cells_len s fs k l = ap (λ f. length f.cells) (file_is s fs k l) ∙ length-map (numbered_at fs k).cells (cell_shown s)

pub files_len : (s : Store) (fs : List NumberedFile) → length (files_shown s fs) ≡ length fs
files_len s fs = length-map fs (file_shown s)

zero_is_one : ◌≡◌ {A = ℕ} 0 1 → ⊥
zero_is_one e = cc

pub present_inside : (cells : List (Cell ℕ)) (i n : ℕ) → cell_in cells i ≡ Present n → i < length cells
present_inside [] i n e = cc
present_inside (c ∷ cells) zero n e = omega arith
present_inside (c ∷ cells) (suc i) n e = (let rest = present_inside cells i n e in omega (arith, rest))

pub some_within : (pages : List (Option Holding)) (n : ℕ) (some : Holding) → slice_index_or pages n None ≡ Some some → n < length pages
some_within [] n some e = cc
some_within (p ∷ pages) zero some e = omega arith
some_within (p ∷ pages) (suc n) some e = (let rest = some_within pages n some e in omega (arith, rest))

pub some_of : (o : Option Holding) → holders_of o ≡ 1 → (h : Holding) × (o ≡ Some h)
some_of None e = absurd (zero_is_one e)
some_of (Some h) e = (h, refl)

module _ (s : Store) (more : ℕ) (fs : List NumberedFile) (h : IsHeld s more fs) (k i : ℕ) (l : k < length (files_shown s fs)) (x : NumberedFile) (read : x ≡ slice_index_or fs k x) where
  within : k < length fs
  within = let same = files_len s fs in omega (arith, l, same)

  x_is : x ≡ numbered_at fs k
  x_is = read_is fs k x within read

  -- ---- a page for an entered index

  module _ (n : ℕ) (page : Page) (t : Store) (g : NumberedFile) (free : page_at s n ≡ None) (below : n < length s.pages)
      (t_is : t ≡ inserted n page s) (g_is : g ≡ record x { cells = slice_set x.cells i (Present n) })
      (entered : cell_at (file_at (files_shown s fs) k) i ≡ Entered) where
    put : g ≡ with_number (numbered_at fs k) i n
    put = g_is ∙ ap (λ f. with_number f i n) x_is

    pub fill_view : view t more (slice_set fs k g) ≡ filled_at k i page (view s more fs)
    fill_view = grind (arith, common_steps, fill_shows, inserted_agrees, inserted_is, below, within, free_is_fresh, put)

    pub fill_keeps : i < length (file_at (files_shown s fs) k).cells → 0 < s.room - more → IsHeld t more (slice_set fs k g)
    fill_keeps inside room = grind (arith, common_steps, entered_is, cell_at_is, within, cells_len, fill_held, inserted_agrees, inserted_is, below, free_is_fresh, inserted_more, put)

  -- ---- bytes for a page that is there

  present_is : (c : Cell ℕ) (n : ℕ) → page_of c ≡ Some n → c ≡ Present n
  present_is Hole n e = cc
  present_is Entered n e = cc
  present_is (Present m) n e = cc

  module _ (n : ℕ) (page : page_of (cell_in x.cells i) ≡ Some n) where
    here : cell_in (numbered_at fs k).cells i ≡ Present n
    here = ap (λ f. cell_in f.cells i) (sym x_is) ∙ present_is (cell_in x.cells i) n page

    inside : i < length (numbered_at fs k).cells
    inside = present_inside (numbered_at fs k).cells i n here

    once : in_files n fs ≡ 1
    once = grind (arith, common_steps, at_most, inside, no_file, within, here, is_it)

    pub held_once : holders_of (page_at s n) ≡ 1
    held_once = h.held n ∙ once

    pub present_shown : (p : Page) × (cell_at (file_at (files_shown s fs) k) i ≡ Present p)
    present_shown = (page_in (page_at s n), cell_at_is s fs k i within ∙ ap (cell_shown s) here)

    module _ (offset : ℕ) (bytes : List ℕ) (t : Store) (t_is : t ≡ store.overwritten n offset bytes s) where
      some : Holding
      some = (some_of (page_at s n) held_once).0

      is : page_at s n ≡ Some some
      unfolding some some_of
      is = (some_of (page_at s n) held_once).1

      below : n < length s.pages
      below = some_within s.pages n some is

      pub write_view : view t more fs ≡ with_cell_at k i (cell_written offset bytes (cell_at (file_at (files_shown s fs) k) i)) (view s more fs)
      write_view = grind (arith, common_steps, write_shows, some, is, below, within, inside, here, once)

-- ---- what a file shows

page_is : (c : Cell ℕ) (n : ℕ) → page_of c ≡ Some n → c ≡ Present n
page_is Hole n e = cc
page_is Entered n e = cc
page_is (Present m) n e = cc

zero_cell : (s : Store) (size : ℕ) (c : Cell ℕ) → page_of c ≡ None → shown size (cell_shown s c) ≡ zeros size
zero_cell s size Hole e = refl
zero_cell s size Entered e = refl
zero_cell s size (Present m) e = cc

pub pages_shown : (s : Store) (cells : List (Cell ℕ)) → count_by has_page (map (cell_shown s) cells) ≡ count_by has_page cells
pages_shown s cells = count_map has_page (cell_shown s) cells ∙ count_alike (λ c. has_page (cell_shown s c)) has_page same cells
  where
    same : (c : Cell ℕ) → has_page (cell_shown s c) ≡ has_page c
    same Hole = refl
    same Entered = refl
    same (Present n) = refl

pub entries_shown : (s : Store) (cells : List (Cell ℕ)) → count_by is_entered (map (cell_shown s) cells) ≡ count_by is_entered cells
entries_shown s cells = count_map is_entered (cell_shown s) cells ∙ count_alike (λ c. is_entered (cell_shown s c)) is_entered same cells
  where
    same : (c : Cell ℕ) → is_entered (cell_shown s c) ≡ is_entered c
    same Hole = refl
    same Entered = refl
    same (Present n) = refl

module _ (s : Store) (fs : List NumberedFile) (k : ℕ) (l : k < length (files_shown s fs)) (x : NumberedFile) (read : x ≡ slice_index_or fs k x) where
  -- the file that code read
  pub file_read : file_at (files_shown s fs) k ≡ file_shown s x
  file_read = (let same = files_len s fs in file_is s fs k (omega (arith, l, same)) ∙ ap (file_shown s) (sym (read_is fs k x (omega (arith, l, same)) read)))

  module _ (size i : ℕ) where
    by_cell : (c : Cell ℕ) → cell_in x.cells i ≡ c → shown size (cell_at (file_at (files_shown s fs) k) i) ≡ shown size (cell_shown s c)
    by_cell c e = ap (λ f. shown size (cell_at f i)) file_read ∙ ap (shown size) (cell_is s x i ∙ ap (cell_shown s) e)

    pub page_bytes : (n : ℕ) → page_of (cell_in x.cells i) ≡ Some n → shown size (cell_at (file_at (files_shown s fs) k) i) ≡ (page_in (page_at s n)).bytes
    page_bytes n e = by_cell (Present n) (page_is (cell_in x.cells i) n e)

    pub no_page_bytes : page_of (cell_in x.cells i) ≡ None → shown size (cell_at (file_at (files_shown s fs) k) i) ≡ zeros size
    no_page_bytes e = by_cell (cell_in x.cells i) refl ∙ zero_cell s size (cell_in x.cells i) e

-- ---- what a map shows

pub shown_place : (s : Store) (y : Mapping ℕ) (i : ℕ) → place_at (map_shown s y) i ≡ place_shown s (place_at y i)
shown_place s y i = grind (arith, common_steps, listn.get_or-map)

pub copy_seen : (s : Store) (p : Place ℕ) (n : ℕ) → copy_of p ≡ Some n → copy_of (place_shown s p) ≡ Some (copy_shown s n)
copy_seen s Gone n e = cc
copy_seen s (Live c None) n e = cc
copy_seen s (Live c (Some k)) n e = ap (λ o. option_map (copy_shown s) o) e

pub no_copy_seen : (s : Store) (p : Place ℕ) → copy_of p ≡ None → copy_of (place_shown s p) ≡ None
no_copy_seen s Gone e = refl
no_copy_seen s (Live c None) e = refl
no_copy_seen s (Live c (Some k)) e = cc

module _ (s : Store) (fs : List NumberedFile) (k j : ℕ) (l : k < length (files_shown s fs)) (x : NumberedFile) (read : x ≡ slice_index_or fs k x)
    (y : Mapping ℕ) (map_read : y ≡ slice_index_or x.maps j y) (jl : j < length (file_at (files_shown s fs) k).maps) where
  file_seen : file_at (files_shown s fs) k ≡ file_shown s x
  file_seen = file_read s fs k l x read

  pub map_seen : map_among (files_shown s fs) k j ≡ map_shown s y
  map_seen = grind (arith, common_steps, length-map, file_seen, get_or-map)

  pub place_seen : (i : ℕ) → place_at (map_shown s y) i ≡ place_shown s (place_at y i)
  place_seen i = shown_place s y i

  module _ (size i : ℕ) where
    abbrev shows : List ℕ
    shows = value size (file_at (files_shown s fs) k) (map_among (files_shown s fs) k j) i

    shows_by : (o : Option Copy) → copy_of (place_at (map_shown s y) i) ≡ o → shows ≡ elim o [ None ↦ shown size (cell_at (file_shown s x) i) | Some copy ↦ copy.page.bytes ]
    shows_by o e = grind (arith, common_steps, file_seen, map_seen)

    pub copy_shows : (n : ℕ) → copy_of (place_at y i) ≡ Some n → shows ≡ (page_in (page_at s n)).bytes
    copy_shows n e = shows_by (Some (copy_shown s n)) (ap copy_of (place_seen i) ∙ copy_seen s (place_at y i) n e)

    page_shows_at : copy_of (place_at y i) ≡ None → (c : Cell ℕ) → cell_in x.cells i ≡ c → shows ≡ shown size (cell_shown s c)
    page_shows_at none c e = shows_by None (ap copy_of (place_seen i) ∙ no_copy_seen s (place_at y i) none) ∙ ap (shown size) (cell_is s x i ∙ ap (cell_shown s) e)

    pub page_shows : (n : ℕ) → copy_of (place_at y i) ≡ None → page_of (cell_in x.cells i) ≡ Some n → shows ≡ (page_in (page_at s n)).bytes
    page_shows n none e = page_shows_at none (Present n) (page_is (cell_in x.cells i) n e)

    pub zeros_show : copy_of (place_at y i) ≡ None → page_of (cell_in x.cells i) ≡ None → shows ≡ zeros size
    zeros_show none e = page_shows_at none (cell_in x.cells i) refl ∙ zero_cell s size (cell_in x.cells i) e

pub bytes_same : (o : Option Holding) → bytes_of o ≡ (page_in o).bytes
bytes_same None = refl
bytes_same (Some h) = refl

-- the page that a store lends
pub page_lent : (o : Option Holding) (p : Page) → option_map store.held_page o ≡ Some p → p ≡ page_in o
page_lent None p e = cc
page_lent (Some h) p e = cc

-- ---- nothing is written where there is no page

pub nothing_written : (s : Store) (more : ℕ) (fs : List NumberedFile) (k i offset : ℕ) (bytes : List ℕ) (x : NumberedFile) →
    k < length (files_shown s fs) → x ≡ slice_index_or fs k x → page_of (cell_in x.cells i) ≡ None
    → view s more fs ≡ with_cell_at k i (cell_written offset bytes (cell_at (file_at (files_shown s fs) k) i)) (view s more fs)
nothing_written s more fs k i offset bytes x l read none =
    let same = files_len s fs in
    let within : k < length fs = omega (arith, l, same) in
    let seen : cell_at (file_at (files_shown s fs) k) i ≡ cell_shown s (cell_in x.cells i) = cell_at_is s fs k i within
    ∙ ap (λ f. cell_shown s (cell_in f.cells i)) (sym (read_is fs k x within read)) in
    let stays : cell_written offset bytes (cell_at (file_at (files_shown s fs) k) i) ≡ cell_at (file_at (files_shown s fs) k) i =
    ap (cell_written offset bytes) seen ∙ unwritten (cell_in x.cells i) none ∙ sym seen in
    sym (ap (λ c. with_cell_at k i c (view s more fs)) stays
    ∙ ap (λ cs. record (view s more fs) { files = slice_set (files_shown s fs) k (record (file_at (files_shown s fs) k) { cells = cs }) }) (set_read (file_at (files_shown s fs) k).cells i Hole)
    ∙ ap (λ gs. record (view s more fs) { files = gs }) (set_read (files_shown s fs) k (new_file None)))
  where
    unwritten : (c : Cell ℕ) → page_of c ≡ None → cell_written offset bytes (cell_shown s c) ≡ cell_shown s c
    unwritten Hole e = refl
    unwritten Entered e = refl
    unwritten (Present n) e = cc
