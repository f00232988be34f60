-- How an event of a part can be answered, and what is told of it.
use Rattle.std.specs.Prelude.{◌≡◌, ℕ, Bool, true, false, Option, ◌<◌, List, [], ◌∷◌, ◌++◌, length}
use Rattle.std.specs.Bool.{MatchBool}
use Rattle.hp_model.specs.declared.entry.Asked.{Asked}
use Rattle.hp_model.specs.declared.entry.Receipt.{Receipt}
use Rattle.hp_model.specs.declared.event.Event.{Event}
use Rattle.hp_model.specs.declared.event.Event.TheVariants.{Tasks as OnTasks, Slot as OnSlot, Pool as OnPool}
use Rattle.hp_model.specs.machine.SlotEvent.{SlotEvent}
use Rattle.hp_model.specs.machine.Event.{IsFresh}
use Rattle.hp_model.specs.machine.Plan.{Choice, Reply, Slot}
use Rattle.hp_model.specs.machine.SlotEvent.{slot_event}
use Rattle.hp_model.specs.machine.Table.{Table, table_event}
use Rattle.hp_model.specs.pool.PoolCounts.{Pool}
use Rattle.hp_model.specs.pool.Resize.{pool_event}
use Rattle.hp_model.specs.threads.LocalRun.{Goes}
use Rattle.hp_model.specs.threads.Telling.{has_place, told_of}
use Rattle.hp_events.specs.Replies.{is_trace_full}

-- the plan of a slot's event, with some fresh stamp, went so by what was asked of the pool
abbrev pub Went : (size k : ℕ) → Slot → SlotEvent → Reply → Option Asked → Slot → Type 0
Went size k old e reply asked new = (c : Choice) × IsFresh c old × Goes (slot_event size k c old e) asked old reply new

-- the event has a state of its part in which it is answered so, where a page has that many bytes
abbrev pub CanAnswer : (size : ℕ) → Event → Reply → Type 0
CanAnswer size (OnTasks e) reply = (nodes : ℕ) × (old : Table) × (new : Table) × (table_event nodes old e ≡ (reply, new))
CanAnswer size (OnSlot k e) reply = (old : Slot) × (asked : Option Asked) × (new : Slot) × Went size k old e reply asked new
CanAnswer size (OnPool e) reply = (old : Pool) × (new : Pool) × (pool_event old e ≡ (reply, new))

-- there is room for a receipt more, where entries are kept
abbrev pub HasPlace : (kept : Bool) → List Receipt → (room : ℕ) → Type 0
HasPlace kept told room = kept ≡ true → length told < room

-- there is one receipt more: of this event, with its reply
abbrev pub IsToldOf : Event → Reply → (was now : List Receipt) → Type 0
IsToldOf e reply was now = (r : Receipt) × (now ≡ was ++ r ∷ []) × (told_of r ≡ (e, reply))

-- what a part under its lock answers to an event, and what was told before and after; TraceFull where entries are kept and there
-- was no place for one, and then nothing was told
abbrev pub IsHanded : (kept : Bool) (size : ℕ) → Event → Reply → (was now : List Receipt) → Type 0
IsHanded kept size e reply was now =
    MatchBool (is_trace_full reply) ((kept ≡ true) × (has_place e ≡ false) × (now ≡ was)) (CanAnswer size e reply × IsToldOf e reply was now)
