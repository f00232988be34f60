-- What holds of the copies and the maps of every slot, whatever events made them.
use Rattle.std.specs.Prelude.{◌≡◌, ℕ, ◌≤◌, ◌<◌, ◌&&◌, ◌==◌, Bool, true, false, None, Some, List, length}
use Rattle.std.specs.List.{All, count_by, list_any}
use Rattle.hp_model.specs.files.File.{File, Mount, map_in, maps_of}
use Rattle.hp_model.specs.files.Mapping.{Map, copy_of, is_map, is_shared, is_unconsumed, place_at}
use Rattle.hp_model.specs.files.Page.{Copy}
use Rattle.hp_model.specs.machine.Plan.{Slot}
use Rattle.hp_model.specs.machine.SlotEvent.{has_name}
use Rattle.hp_model.specs.declared.place.Place.{Place}
use Rattle.hp_model.specs.declared.place.Place.TheVariants.{Gone, Live}

-- ---- copies that are held

-- whether a copy is held whose stamp and node pass
abbrev pub place_has : (ℕ → ℕ → Bool) → Place Copy → Bool
place_has t Gone = false
place_has t (Live consumed None) = false
place_has t (Live consumed (Some copy)) = t copy.stamp copy.page.node

abbrev pub map_has : (ℕ → ℕ → Bool) → Map → Bool
map_has t m = list_any (place_has t) m.places

abbrev pub file_has : (ℕ → ℕ → Bool) → File → Bool
file_has t f = list_any (map_has t) f.maps

abbrev pub is_stamp : ℕ → ℕ → ℕ → Bool
is_stamp q stamp node = stamp == q

abbrev pub owns_stamp : ℕ → Map → Bool
owns_stamp stamp m = m.owner && map_has (is_stamp stamp) m

-- the map has the copy at this index of the file
abbrev pub HasCopy : Map → ℕ → Copy → Type 0
HasCopy m i copy = copy_of (place_at m i) ≡ Some copy

-- one of the file's maps has it there
abbrev pub FileHasCopy : File → ℕ → Copy → Type 0
FileHasCopy f i copy = (k : ℕ) × HasCopy (map_in f k) i copy

-- ---- what holds of them

-- a place with a copy, where the file has so many pages
pub record IsCopyPlace (pages : ℕ) (m : Map) (i : ℕ) : Type 0 where
  pub private : is_shared m.sharing ≡ false
  pub below : i < pages
  pub consumed : m.owner ≡ true → is_unconsumed (place_at m i) ≡ false

-- only a private map has copies, below the file's length, and an owner where it has consumed
abbrev pub IsSoundMap : (pages : ℕ) → Map → Type 0
IsSoundMap pages m = (i : ℕ) (copy : Copy) → HasCopy m i copy → IsCopyPlace pages m i

pub record IsSoundFile (f : File) : Type 0 where
  pub maps : All (IsSoundMap (length f.cells)) f.maps
  -- copies with one stamp stand at one index, with the same bytes and node
  pub copies : (i j : ℕ) (a b : Copy) → FileHasCopy f i a → FileHasCopy f j b → a.stamp ≡ b.stamp → (i ≡ j) × (a ≡ b)
  pub owners : (stamp : ℕ) → count_by (owns_stamp stamp) f.maps ≤ 1

pub record IsSoundMount (m : Mount) : Type 0 where
  pub files : All IsSoundFile m.files
  -- a stamp is in one file
  pub stamps : (stamp : ℕ) → count_by (file_has (is_stamp stamp)) m.files ≤ 1
  -- a task's number is of one map
  pub numbers : (task number : ℕ) → count_by (is_map task number) (maps_of m) ≤ 1
  -- a name is of one file: an unlinked or an anonymous one has none
  pub names : (name : List ℕ) → count_by (has_name name) m.files ≤ 1

abbrev pub IsSound : Slot → Type 0
IsSound None = Unit {0}
IsSound (Some m) = IsSoundMount m
