-- Maps of a file. C is what a map has as a private copy: a stamp with its page, or a page's number.
use Rattle.std.specs.Prelude.{ℕ, ◌-◌, ◌&&◌, ◌==◌, Bool, true, false, List, [], map, if◌then◌else◌, nat_lt}
use Rattle.std.specs.Prelude.{Option, None}
use Rattle.std.specs.List.{slice_index_or, slice_set, list_any}
use Rattle.hp_model.specs.Lists.{edit_range}
use Rattle.hp_model.specs.files.Page.{Copy}
use Rattle.hp_model.specs.declared.place.Place.{Place}
use Rattle.hp_model.specs.declared.place.Place.TheVariants.{Gone, Live}
use Rattle.hp_model.specs.declared.step.Sharing.{Sharing}
use Rattle.hp_model.specs.declared.step.Sharing.TheVariants.{Shared, Private}

-- a map of a file, from the file's index `start` on, one place for each page
pub record Mapping (C : Type 0) : Type 0 where
  pub task : ℕ
  pub number : ℕ
  pub start : ℕ
  pub sharing : Sharing
  pub owner : Bool
  pub unmapped : Bool
  pub places : List (Place C)

-- a map of the machine
abbrev pub Map : Type 0
Map = Mapping Copy

-- what stands where there is no map
abbrev pub no_map : Map
no_map = record { task = 0; number = 0; start = 0; sharing = Shared; owner = false; unmapped = false; places = [] }

abbrev pub is_shared : Sharing → Bool
is_shared Shared = true
is_shared Private = false

module _ {C : Type 0} where
  -- ---- one place

  abbrev pub is_live : Place C → Bool
  is_live Gone = false
  is_live (Live consumed copy) = true

  abbrev pub copy_of : Place C → Option C
  copy_of Gone = None
  copy_of (Live consumed copy) = copy

  abbrev pub is_unconsumed : Place C → Bool
  is_unconsumed Gone = false
  is_unconsumed (Live true copy) = false
  is_unconsumed (Live false copy) = true

  abbrev pub without_copy : Place C → Place C
  without_copy Gone = Gone
  without_copy (Live consumed copy) = Live consumed None

  abbrev pub unconsumed : Place C → Place C
  unconsumed Gone = Gone
  unconsumed (Live consumed copy) = Live false copy

  -- ---- one map

  -- the place of the file's index i in the map
  abbrev pub place_at : Mapping C → ℕ → Place C
  place_at m i = if nat_lt i m.start then Gone else slice_index_or m.places (i - m.start) Gone

  abbrev pub with_place : Mapping C → ℕ → Place C → Mapping C
  with_place m i p = record m { places = slice_set m.places (i - m.start) p }

  -- a map with no index left is gone
  abbrev pub is_mapped : Mapping C → Bool
  is_mapped m = list_any is_live m.places

  -- the file's indices from a up to b leave the map
  abbrev pub without_range : ℕ → ℕ → Mapping C → Mapping C
  without_range a b m = record m { places = edit_range (λ p. Gone) (a - m.start) (b - m.start) m.places }

  -- the private copies of the file's indices from a up to b go
  abbrev pub map_punched : ℕ → ℕ → Mapping C → Mapping C
  map_punched a b m = record m { places = edit_range without_copy (a - m.start) (b - m.start) m.places }

  -- the child's map: the same number, range, copies and mark; owner of nothing
  abbrev pub map_for : ℕ → Mapping C → Mapping C
  map_for child m = record m { task = child; owner = false; places = map unconsumed m.places }

  abbrev pub is_of : ℕ → Mapping C → Bool
  is_of task m = m.task == task

  abbrev pub is_map : ℕ → ℕ → Mapping C → Bool
  is_map task number m = (m.task == task) && (m.number == number)
