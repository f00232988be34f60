-- An event of the machine, and runs of events.
use Rattle.std.specs.Prelude.{◌≡◌, ℕ, Bool, true, false, not, None, Some, Ok, Err, List, [], ◌∷◌, length, IsTrue, nat_lt}
use Rattle.std.specs.List.{list_any, flat_map}
use Rattle.hp_model.specs.declared.event.Event.{Event}
use Rattle.hp_model.specs.declared.event.Event.TheVariants.{Tasks, Slot as OnSlot, Pool as OnPool}
use Rattle.hp_model.specs.machine.SlotEvent.{SlotEvent}
use Rattle.hp_model.specs.declared.event.SlotEvent.TheVariants.{ExitMaps}
use Rattle.hp_model.specs.files.File.{maps_of}
use Rattle.hp_model.specs.Lists.{is_among}
use Rattle.hp_model.specs.machine.Machine.{pool_of, with_pool}
use Rattle.hp_model.specs.files.Mapping.{is_of}
use Rattle.hp_model.specs.files.MountCounts.{stamps_of}
use Rattle.hp_model.specs.machine.Plan.{Reply, Slot, Outcome, Refused, Answered, Plan, Finish, Ask, Choice}
use Rattle.hp_model.specs.pool.Pool.{PoolAnswer, section}
use Rattle.hp_model.specs.pool.PoolCounts.{Pool}
use Rattle.hp_model.specs.pool.Resize.{pool_event}
use Rattle.hp_model.specs.machine.SlotEvent.{slot_event}
use Rattle.hp_model.specs.machine.State.{State, slot_at, with_slot}
use Rattle.hp_model.specs.machine.Table.{Table, table_event}

-- ---- what the machine may choose

abbrev pub stamps_in : Slot → List ℕ
stamps_in None = []
stamps_in (Some m) = flat_map stamps_of m.files

-- no map of the slot holds the stamp
abbrev pub IsFresh : Choice → Slot → Type 0
IsFresh c slot = IsTrue (not (is_among c.stamp (stamps_in slot)))

-- ---- what an event does

abbrev pub with_outcome : State → ℕ → Outcome → Reply × State
with_outcome s k (Refused r) = (Err r, s)
with_outcome s k (Answered a slot) = (Ok a, with_slot s k slot)

abbrev pub asked_pool : State → ℕ → PoolAnswer × Pool → (PoolAnswer → Outcome) → Reply × State
asked_pool s k q f = with_outcome (with_pool s q.1) k (f q.0)

abbrev pub planned : State → ℕ → Plan → Reply × State
planned s k (Finish o) = with_outcome s k o
planned s k (Ask sec f) = asked_pool s k (section (pool_of s) (sec s.nr)) f

abbrev pub with_table : State → Reply × Table → Reply × State
with_table s r = (r.0, record s { table = r.1 })

abbrev pub with_pool_reply : State → Reply × Pool → Reply × State
with_pool_reply s r = (r.0, with_pool s r.1)

abbrev pub after : Choice → State → Event → Reply × State
after c s (Tasks e) = with_table s (table_event (length s.nodes) s.table e)
after c s (OnSlot k e) = planned s k (slot_event s.page_size k c (slot_at s k) e)
after c s (OnPool e) = with_pool_reply s (pool_event (pool_of s) e)

-- ---- which events there are

abbrev pub has_maps_of : ℕ → Slot → Bool
has_maps_of task None = false
has_maps_of task (Some m) = list_any (is_of task) (maps_of m)

-- leaving a slot without a map to remove is no event
abbrev pub is_slot_event : Slot → SlotEvent → Bool
is_slot_event slot (ExitMaps task) = has_maps_of task slot
is_slot_event slot other = true

abbrev pub CanHappen : Choice → State → Event → Type 0
CanHappen c s (Tasks e) = Unit {0}
CanHappen c s (OnSlot k e) = (IsTrue (nat_lt k (length s.slots))) × IsTrue (is_slot_event (slot_at s k) e) × IsFresh c (slot_at s k)
CanHappen c s (OnPool e) = Unit {0}

-- from s, the event may be answered so and leave t
abbrev pub IsEvent : State → Event → Reply → State → Type 0
IsEvent s e reply t = (c : Choice) × CanHappen c s e × (after c s e ≡ (reply, t))

-- events one after another, each with its reply
abbrev pub IsEventRun : State → List (Event × Reply) → State → Type 0
IsEventRun s [] t = s ≡ t
IsEventRun s (e ∷ es) t = (mid : State) × IsEvent s e.0 e.1 mid × IsEventRun mid es t
