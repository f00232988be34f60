-- Kinds of events of a slot.
use Rattle.std.specs.Prelude.{◌≡◌, ◌==◌, ℕ, Bool, true, false}
use Rattle.hp_model.specs.machine.Event.{has_maps_of}
use Rattle.hp_model.specs.machine.Plan.{Slot}
use Rattle.hp_model.specs.machine.SlotEvent.{SlotEvent}
use Rattle.hp_model.specs.declared.event.SlotEvent.TheVariants.{Mount, Remount, Umount, Stat, Read, Map, Anon, Fault, Load, Store, Ls, Df, ForkMaps, ExitMaps}

-- the event for a task with that home, where it is one of a task that is looked up
abbrev pub with_home : (home : ℕ) → SlotEvent → SlotEvent
with_home h (Map task home name from pages sharing reserving) = Map task h name from pages sharing reserving
with_home h (Anon task home pages sharing reserving) = Anon task h pages sharing reserving
with_home h (Fault task home map index intent) = Fault task h map index intent
with_home h (Load task home map index offset count) = Load task h map index offset count
with_home h (Store task home map index offset bytes) = Store task h map index offset bytes
with_home h other = other

-- it answers bytes, for which it is given room
abbrev pub shows_bytes : SlotEvent → Bool
shows_bytes (Read name index offset count) = true
shows_bytes (Load task home map index offset count) = true
shows_bytes other = false

-- it answers the mount's numbers or names, or a file's numbers
abbrev pub is_usage : SlotEvent → Bool
is_usage Df = true
is_usage Ls = true
is_usage (Stat name) = true
is_usage other = false

-- it asks something of a mount: no mount, remount or umount, and nothing that goes by a task's maps
abbrev pub is_of_mount : SlotEvent → Bool
is_of_mount (Mount options) = false
is_of_mount (Remount options) = false
is_of_mount Umount = false
is_of_mount (ForkMaps parent child) = false
is_of_mount (ExitMaps task) = false
is_of_mount other = true

-- a task's maps go
abbrev pub is_exit : SlotEvent → Bool
is_exit (ExitMaps task) = true
is_exit other = false

-- it goes by a task's maps on the slot: where there is none, there is no event
abbrev pub is_of_maps : SlotEvent → Bool
is_of_maps (ForkMaps parent child) = true
is_of_maps (ExitMaps task) = true
is_of_maps other = false

-- the slot has the maps that it goes by
abbrev pub has_maps_for : SlotEvent → Slot → Bool
has_maps_for (ForkMaps parent child) s = has_maps_of parent s
has_maps_for (ExitMaps task) s = has_maps_of task s
has_maps_for other s = true

-- a door had no room for its section: never where it gives back alone, which always has its place
abbrev pub full_for : Type 0 → SlotEvent → Type 0
full_for full Umount = ⊥
full_for full (ForkMaps parent child) = ⊥
full_for full (ExitMaps task) = ⊥
full_for full other = full

-- a child is not its parent
abbrev pub IsAnother : SlotEvent → Type 0
IsAnother (ForkMaps parent child) = (parent == child) ≡ false
IsAnother other = Unit {0}
