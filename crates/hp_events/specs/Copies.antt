-- Copies of what an event carries.
use Rattle.std.specs.Prelude.{◌≡◌, ℕ, Bool, Option, None, Some, List, [], true, false}
use Rattle.hp_model.specs.beside.Copying.{has_bytes}
use Rattle.hp_model.specs.machine.SlotEvent.{SlotEvent}
use Rattle.hp_model.specs.declared.event.SlotEvent.TheVariants as slot

-- the name, the options or the bytes of an event
abbrev pub bytes_of_event : SlotEvent → List ℕ
bytes_of_event (slot.Mount options) = options
bytes_of_event (slot.Remount options) = options
bytes_of_event (slot.Create name) = name
bytes_of_event (slot.Unlink name) = name
bytes_of_event (slot.Truncate name pages) = name
bytes_of_event (slot.Punch name a b) = name
bytes_of_event (slot.Preallocate name a b) = name
bytes_of_event (slot.Read name i offset count) = name
bytes_of_event (slot.Stat name) = name
bytes_of_event (slot.Map task home name a pages sharing reserving) = name
bytes_of_event (slot.Store task home number i offset bytes) = bytes
bytes_of_event other = []

-- two copies of these bytes, where there are any
abbrev pub AreCopies : (has : Bool) → List ℕ → Option (List ℕ × List ℕ) → Type 0
AreCopies has bytes None = has ≡ false
AreCopies has bytes (Some both) = (has ≡ true) × (both.0 ≡ bytes) × (both.1 ≡ bytes)

-- two copies of what it carries, if that is anything
abbrev pub AreCopiesFor : SlotEvent → Option (List ℕ × List ℕ) → Type 0
AreCopiesFor e copies = AreCopies (has_bytes e) (bytes_of_event e) copies
