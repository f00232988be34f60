-- Where a map is found.
use Rattle.std.specs.Prelude.{◌≡◌, ℕ, ◌<◌, ◌≤◌, true, Bool, None, Some, List, length, map, slice_index_or}
use Rattle.std.specs.List.{All, flat_map, list_any}
use Rattle.hp_model.specs.declared.limits.Limits.{Limits}
use Rattle.hp_model.specs.files.File.{File, Mount}
use Rattle.hp_model.specs.Lists.{distinct, found}
use Rattle.hp_model.specs.files.Mapping.{Map, is_map, is_of}
use Rattle.hp_model.specs.machine.SlotEvent.{has_name}
use Rattle.hp_model.specs.machine.Promises.{no_map}
use Rattle.hp_model.specs.files.Spot.{Spot, spot}
use Rattle.hp_model.specs.files.Value.{value}
use Rattle.hp_lookup.specs.declared.map_place.MapPlace.{MapPlace}
use Rattle.hp_lookup.specs.Files.{file_at}

-- whether the file has the task's map of that number
abbrev pub has_it : (task number : ℕ) → File → Bool
has_it task number f = list_any (is_map task number) f.maps

abbrev pub map_among : List File → (file map : ℕ) → Map
map_among fs file map = slice_index_or (file_at fs file).maps map no_map

-- the bytes that a map shows at an index
abbrev pub shown_at : (size : ℕ) → List File → MapPlace → (index : ℕ) → List ℕ
shown_at size fs at index = value size (file_at fs at.file) (map_among fs at.file at.map) index

abbrev pub spot_of : List File → (file map : ℕ) → Spot
spot_of fs file map = record { file_no = file; file = file_at fs file; map_no = map; map = map_among fs file map }

-- a mount of these files
abbrev pub mount_with : Limits → List File → Mount
mount_with limits fs = record { limits = limits; files = fs }

pub record IsFound (fs : List File) (task number file map : ℕ) : Type 0 where
  pub is : (limits : Limits) → spot (mount_with limits fs) (is_map task number) ≡ Some (spot_of fs file map)
  pub file_within : file < length fs
  pub map_within : map < length (file_at fs file).maps

abbrev pub IsMissing : List File → (task number : ℕ) → Type 0
IsMissing fs task number = (limits : Limits) → spot (mount_with limits fs) (is_map task number) ≡ None

-- the first file with the name stands there
pub record IsNamed (fs : List File) (name : List ℕ) (at : ℕ) : Type 0 where
  pub is : found (has_name name) fs ≡ Some (at, file_at fs at)
  pub within : at < length fs

abbrev pub all_maps : List File → List Map
all_maps fs = flat_map (λ f. f.maps) fs

-- the tasks that have maps
abbrev pub all_tasks : List File → List ℕ
all_tasks fs = distinct (map (λ m. m.task) (all_maps fs))

-- the task has a map, and no map is of a lesser one
pub record IsFirstTask (fs : List File) (task : ℕ) : Type 0 where
  pub has : list_any (is_of task) (all_maps fs) ≡ true
  pub least : All (λ (m : Map). task ≤ m.task) (all_maps fs)
