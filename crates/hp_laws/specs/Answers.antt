-- Which events answer lists of names.
use Rattle.std.specs.Prelude.{◌≡◌, ℕ, Bool, true, false}
use Rattle.hp_model.specs.machine.SlotEvent.{SlotEvent}
use Rattle.hp_model.specs.declared.event.SlotEvent.TheVariants.{Ls}
use Rattle.hp_model.specs.beside.Copying.{has_names}
use Rattle.hp_model.specs.machine.Plan.{Answered, Choice, Outcome, Refused, Slot}
use Rattle.hp_model.specs.machine.SlotEvent.{slot_event}
use Rattle.hp_laws.specs.Balance.{Always}

-- it asks for the names of files
abbrev pub lists_names : SlotEvent → Bool
lists_names Ls = true
lists_names other = false

-- the answer is no list of names
abbrev pub HasNoNames : Outcome → Type 0
HasNoNames (Refused r) = Unit {0}
HasNoNames (Answered a slot) = has_names a ≡ false

-- only that event answers names
abbrev pub NamesAreListed : Type 0
NamesAreListed = (size k : ℕ) (c : Choice) (old : Slot) (e : SlotEvent) → lists_names e ≡ false → Always HasNoNames (slot_event size k c old e)
