-- What a copy needs memory for.
use Rattle.std.specs.Prelude.{Bool, true, false, Ok, Err}
use Rattle.hp_model.specs.declared.answer.Answer.{Answer}
use Rattle.hp_model.specs.declared.answer.Answer.TheVariants.{Names}
use Rattle.hp_model.specs.machine.SlotEvent.{SlotEvent}
use Rattle.hp_model.specs.declared.event.SlotEvent.TheVariants.{Mount, Remount, Create, Unlink, Truncate, Punch, Preallocate, Read, Stat, Map, Store}
use Rattle.hp_model.specs.machine.Plan.{Reply}

-- the answer is a list of names
abbrev pub has_names : Answer → Bool
has_names (Names names) = true
has_names other = false

abbrev pub reply_has_names : Reply → Bool
reply_has_names (Ok a) = has_names a
reply_has_names (Err r) = false

-- the event has a name, options or bytes
abbrev pub has_bytes : SlotEvent → Bool
has_bytes (Mount options) = true
has_bytes (Remount options) = true
has_bytes (Create name) = true
has_bytes (Unlink name) = true
has_bytes (Truncate name pages) = true
has_bytes (Punch name a b) = true
has_bytes (Preallocate name a b) = true
has_bytes (Read name i offset count) = true
has_bytes (Stat name) = true
has_bytes (Map task home name a pages sharing reserving) = true
has_bytes (Store task home number i offset bytes) = true
has_bytes other = false
