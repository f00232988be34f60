-- What names and numbers mean on a slot.
use Rattle.std.specs.Prelude.{ℕ, ◌&&◌, Bool, Option, None, Some, List, nat_le, nat_lt}
use Rattle.hp_model.specs.files.File.{File}
use Rattle.hp_model.specs.files.Mapping.{is_map}
use Rattle.hp_model.specs.files.Spot.{Spot, spot}
use Rattle.hp_model.specs.machine.Plan.{Slot}
use Rattle.hp_model.specs.machine.SlotEvent.{file_named}
use Rattle.hp_model.specs.machine.State.{State, slot_at}

abbrev pub spot_on : Slot → (task number : ℕ) → Option Spot
spot_on None task number = None
spot_on (Some m) task number = spot m (is_map task number)

-- the map of the task with the number, if it is there
abbrev pub map_named : State → (slot task number : ℕ) → Option Spot
map_named s slot task number = spot_on (slot_at s slot) task number

abbrev pub named_on : Slot → List ℕ → Option (ℕ × File)
named_on None name = None
named_on (Some m) name = file_named m name

abbrev pub is_in : (a b i : ℕ) → Bool
is_in a b i = nat_le a i && nat_lt i b
