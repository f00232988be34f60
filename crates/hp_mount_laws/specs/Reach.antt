-- The map that an access is at, what it may need, and what it leaves as it was.
use Rattle.std.specs.Prelude.{◌≡◌, ◌&&◌, ℕ, Bool, false, Option, None, Some, List, [], ◌∷◌, length, if◌then◌else◌}
use Rattle.hp_model.specs.declared.refusal.Refusal.{Refusal}
use Rattle.hp_model.specs.declared.cell.Cell.{Cell}
use Rattle.hp_model.specs.declared.place.Place.{Place}
use Rattle.hp_model.specs.declared.place.Place.TheVariants.{Live}
use Rattle.hp_model.specs.files.Page.{Copy}
use Rattle.hp_model.specs.declared.step.Intent.{Intent}
use Rattle.hp_model.specs.declared.step.Intent.TheVariants.{Read, Write}
use Rattle.hp_model.specs.files.File.{Mount, cell_at, has_page, with_file, with_map}
use Rattle.hp_model.specs.machine.Promises.{file_in, map_in}
use Rattle.hp_model.specs.files.Spot.{Spot}
use Rattle.hp_model.specs.files.Mapping.{Map, is_shared, is_unconsumed, place_at, with_place}

-- the map at a place of a file's maps
abbrev pub spot_at : Mount → (file map : ℕ) → Spot
spot_at m file map = record { file_no = file; file = file_in m file; map_no = map; map = map_in (file_in m file) map }

abbrev pub first_of : List (Bool × Refusal) → Option Refusal
first_of [] = None
first_of (t ∷ ts) = if t.0 then Some t.1 else first_of ts

-- as many files, and the file at the place has as many indices and maps
pub record IsFileTouched (m n : Mount) (file : ℕ) : Type 0 where
  pub files : length n.files ≡ length m.files
  pub maps : length (file_in n file).maps ≡ length (file_in m file).maps
  pub cells : length (file_in n file).cells ≡ length (file_in m file).cells

-- the map owns a reservation for the index
abbrev pub has_reserve : Map → ℕ → Bool
has_reserve m i = m.owner && is_unconsumed (place_at m i)

-- a reader finds a page of the file
abbrev pub shows_page : {P : Type 0} → Intent → Cell P → Bool
shows_page Read cell = has_page cell
shows_page Write cell = false

-- the map is private and not marked, and has no copy at the index, and an access asks for one
pub record NeedsCopy (intent : Intent) (i : ℕ) (s : Spot) : Type 0 where
  pub consumed : Bool
  pub private : is_shared s.map.sharing ≡ false
  pub place : place_at s.map i ≡ Live consumed None
  pub kept : s.map.unmapped ≡ false
  pub asks : shows_page intent (cell_at s.file i) ≡ false

-- the mount with a place of a map changed
abbrev pub with_place_at : Mount → (file map i : ℕ) → Place Copy → Mount
with_place_at m file map i p = with_file m file (with_map (file_in m file) map (with_place (map_in (file_in m file) map) i p))
