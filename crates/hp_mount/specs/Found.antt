-- What an access asks before it begins, and where it goes.
use Rattle.std.specs.Prelude.{◌<◌, ◌≤◌, ◌≡◌, ℕ, ◌+◌, Bool, true, Option, None, Some, List, length}
use Rattle.hp_model.specs.declared.refusal.Refusal.{Refusal}
use Rattle.hp_model.specs.declared.refusal.Refusal.TheVariants.{NoSuchMap}
use Rattle.hp_model.specs.files.File.{Mount}
use Rattle.hp_model.specs.machine.Promises.{file_in, map_in}
use Rattle.hp_model.specs.machine.SlotEvent.{byte_tests, fault_tests}
use Rattle.hp_model.specs.files.Spot.{Spot, spot}
use Rattle.hp_mount.specs.declared.mount.reach.Asked.{Asked}
use Rattle.hp_mount.specs.declared.mount.reach.Asked.TheVariants.{Page, Bytes}
use Rattle.hp_mount.specs.declared.mount.reach.MapAccess.{MapAccess}
use Rattle.hp_lookup.specs.declared.map_place.MapPlace.{MapPlace}
use Rattle.hp_model.specs.files.Mapping.{is_live, is_map, place_at}
use Rattle.hp_model.specs.Profile.{most_bytes}
use Rattle.hp_mount_laws.specs.Reach.{spot_at, first_of}

-- the map of an access, if it is there
abbrev pub spot_of : MapAccess → Mount → Option Spot
spot_of a m = spot m (is_map a.task a.map)

-- what an access asks before it begins
abbrev pub tests_of : (size i : ℕ) → Asked → Spot → List (Bool × Refusal)
tests_of size i Page s = fault_tests i s
tests_of size i (Bytes offset count) s = byte_tests size i offset count s

-- the bytes lie in one page, and an answer holds them
abbrev pub Fits : (size : ℕ) → Asked → Type 0
Fits size Page = Unit {0}
Fits size (Bytes offset count) = (offset + count ≤ size) × (count ≤ most_bytes)

-- why it does not begin, if anything: there is no such map, or else the first of its tests that fails
abbrev pub why_not : Mount → MapAccess → Asked → (size : ℕ) → Option Refusal
why_not m a asked size = elim (spot_of a m) [ None ↦ Some NoSuchMap | Some s ↦ first_of (tests_of size a.index asked s) ]

-- the file at the place has the index
pub record HasIndex (m : Mount) (k i : ℕ) : Type 0 where
  pub file : k < length m.files
  pub below : i < length (file_in m k).cells

-- the map of the access stands at the place, and the access begins
pub record IsPlaced (m : Mount) (a : MapAccess) (asked : Asked) (size : ℕ) (at : MapPlace) : Type 0 where
  pub found : spot_of a m ≡ Some (spot_at m at.file at.map)
  pub pass : first_of (tests_of size a.index asked (spot_at m at.file at.map)) ≡ None
  pub file : at.file < length m.files
  pub map : at.map < length (file_in m at.file).maps
  pub below : a.index < length (file_in m at.file).cells
  pub live : is_live (place_at (map_in (file_in m at.file) at.map) a.index) ≡ true
