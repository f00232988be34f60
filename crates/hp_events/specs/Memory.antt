-- What may be refused memory.
use Rattle.std.specs.Prelude.{Bool, true, false, not}
use Rattle.hp_model.specs.machine.SlotEvent.{SlotEvent}
use Rattle.hp_model.specs.declared.event.SlotEvent.TheVariants.{Create, Ls, Preallocate, Map, Anon, Fault, ForkMaps, Load, Store}
use Rattle.hp_model.specs.declared.step.Intent.TheVariants.{Read, Write}
use Rattle.hp_model.specs.machine.Plan.{Slot}
use Rattle.hp_model.specs.machine.Promises.{is_backed, spot_on}

-- a file or a map that is made, indices that are filled, a fork, a list of names, and an access that no reservation, page or copy backs
abbrev pub asks_memory : Slot → SlotEvent → Bool
asks_memory slot (Create name) = true
asks_memory slot Ls = true
asks_memory slot (Preallocate name a b) = true
asks_memory slot (Map task home name a n sharing reserving) = true
asks_memory slot (Anon task home n sharing reserving) = true
asks_memory slot (Fault task home number i intent) = not (is_backed intent (spot_on slot task number) i)
asks_memory slot (Load task home number i offset count) = not (is_backed Read (spot_on slot task number) i)
asks_memory slot (Store task home number i offset bytes) = not (is_backed Write (spot_on slot task number) i)
asks_memory slot (ForkMaps parent child) = true
asks_memory slot other = false
