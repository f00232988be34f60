-- How a store's pages are held by files and maps. No public clause cites this module.
use Rattle.std.specs.Prelude.{◌≡◌, ℕ, ◌+◌, ◌-◌, ◌==◌, ◌<◌, ◌≤◌, List, length, if◌then◌else◌, Option, None, Some}
use Rattle.std.specs.List.{sum_by}
use Rattle.hp_model.specs.declared.cell.Cell.{Cell}
use Rattle.hp_model.specs.declared.cell.Cell.TheVariants.{Hole, Entered, Present}
use Rattle.hp_model.specs.declared.place.Place.{Place}
use Rattle.hp_model.specs.declared.place.Place.TheVariants.{Gone, Live}
use Rattle.hp_model.specs.files.Mapping.{Mapping}
use Rattle.hp_store.specs.Store.{Holding, Store, page_at, holders_of}
use Rattle.hp_lookup.specs.Numbered.{NumberedFile, numbered_at}

-- ---- at how many places a number stands

abbrev pub in_cell : ℕ → Cell ℕ → ℕ
in_cell n Hole = 0
in_cell n Entered = 0
in_cell n (Present k) = if k == n then 1 else 0

abbrev pub in_place : ℕ → Place ℕ → ℕ
in_place n Gone = 0
in_place n (Live c None) = 0
in_place n (Live c (Some k)) = if k == n then 1 else 0

abbrev pub in_map : ℕ → Mapping ℕ → ℕ
in_map n m = sum_by (in_place n) m.places

abbrev pub in_file : ℕ → NumberedFile → ℕ
in_file n f = sum_by (in_cell n) f.cells + sum_by (in_map n) f.maps

abbrev pub in_files : ℕ → List NumberedFile → ℕ
in_files n fs = sum_by (in_file n) fs

abbrev pub in_cells : ℕ → List NumberedFile → ℕ
in_cells n fs = sum_by (λ f. sum_by (in_cell n) f.cells) fs

-- ---- the store's side

-- holders beyond the first
abbrev pub more_of : Option Holding → ℕ
more_of h = holders_of h - 1

abbrev pub more_in : List (Option Holding) → ℕ
more_in pages = sum_by more_of pages

-- each number has as many holders as there are places where it stands; and there is room for a page to each holder beyond the first of a number
pub record IsHeld (s : Store) (more : ℕ) (fs : List NumberedFile) : Type 0 where
  pub held : (n : ℕ) → holders_of (page_at s n) ≡ in_files n fs
  -- a page that is there has a holder
  pub some : (n : ℕ) → holders_of (page_at s n) ≡ 0 → page_at s n ≡ None
  -- a file's page is its own
  pub alone : (n : ℕ) → 0 < in_cells n fs → in_files n fs ≡ 1
  -- and no number stands in two files
  pub apart : (n k : ℕ) → k < length fs → 0 < in_file n (numbered_at fs k) → in_files n fs ≡ in_file n (numbered_at fs k)
  pub counted : more ≡ more_in s.pages
  pub parts : more ≤ s.room
