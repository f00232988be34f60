-- The map that an event names, and the changes that an access makes there.
use Rattle.std.specs.Prelude.{ℕ, ◌-◌, Bool, Option, None, Some, List, if◌then◌else◌}
use Rattle.std.specs.List.{slice_index_or, list_any}
use Rattle.std.specs.Option.{option_map}
use Rattle.hp_model.specs.declared.answer.Answer.TheVariants.{Done}
use Rattle.hp_model.specs.declared.cell.Cell.{Cell}
use Rattle.hp_model.specs.declared.cell.Cell.TheVariants.{Hole, Entered, Present}
use Rattle.hp_model.specs.declared.place.Place.{Place}
use Rattle.hp_model.specs.declared.place.Place.TheVariants.{Gone, Live}
use Rattle.hp_model.specs.files.File.{File, Mount, with_file, with_cell, with_map}
use Rattle.hp_model.specs.Lists.{found, edit_at}
use Rattle.hp_model.specs.files.Mapping.{Map, is_shared, with_place}
use Rattle.hp_model.specs.files.Page.{Page, Copy, overwritten}
use Rattle.hp_model.specs.machine.Plan.{Outcome, Answered}

-- a map, with its place among its file's maps, and its file, with its place on the mount
pub record Spot : Type 0 where
  pub file_no : ℕ
  pub file : File
  pub map_no : ℕ
  pub map : Map

abbrev pub spot_in : ℕ × File → ℕ × Map → Spot
spot_in f m = record { file_no = f.0; file = f.1; map_no = m.0; map = m.1 }

-- the first map that passes
abbrev pub spot : Mount → (Map → Bool) → Option Spot
spot m test =
    elim (found (λ f. list_any test f.maps) m.files) [ None ↦ None | Some f ↦ option_map (spot_in f) (found test f.1.maps) ]

-- ---- the changes that an access makes

-- the index of the file has this page
abbrev pub filled : Mount → Spot → ℕ → Page → Outcome
filled m s i page = Answered Done (Some (with_file m s.file_no (with_cell s.file i (Present page))))

-- the index of the map has this copy
abbrev pub copied : Mount → Spot → ℕ → Bool → Copy → Outcome
copied m s i consumed copy =
    Answered Done (Some (with_file m s.file_no (with_map s.file s.map_no (with_place s.map i (Live consumed (Some copy))))))

-- ---- what a store writes, and a load reads

abbrev pub cell_written : ℕ → List ℕ → Cell Page → Cell Page
cell_written offset bytes Hole = Hole
cell_written offset bytes Entered = Entered
cell_written offset bytes (Present page) = Present (overwritten offset bytes page)

abbrev pub place_written : ℕ → List ℕ → Place Copy → Place Copy
place_written offset bytes Gone = Gone
place_written offset bytes (Live consumed None) = Live consumed None
place_written offset bytes (Live consumed (Some copy)) = Live consumed (Some (record copy { page = overwritten offset bytes copy.page }))

abbrev pub map_written : (i offset : ℕ) → List ℕ → Map → Map
map_written i offset bytes m = record m { places = edit_at (place_written offset bytes) m.places (i - m.start) }

abbrev pub file_written : Spot → (i offset : ℕ) → List ℕ → File → File
file_written s i offset bytes f =
    if is_shared s.map.sharing
    then record f { cells = edit_at (cell_written offset bytes) f.cells i }
    else record f { maps = edit_at (map_written i offset bytes) f.maps s.map_no }

-- the bytes go into the page that stands at the spot's places now
abbrev pub written : Mount → Spot → (i offset : ℕ) → List ℕ → Mount
written m s i offset bytes = record m { files = edit_at (file_written s i offset bytes) m.files s.file_no }

-- the same map after the access
abbrev pub again : Mount → Spot → Spot
again m s =
    let f : File = slice_index_or m.files s.file_no s.file in
    record s { file = f; map = slice_index_or f.maps s.map_no s.map }
