-- The trails of all parts as one run of the machine.
use Rattle.std.specs.Prelude.{◌≡◌, ℕ, ◌+◌, ◌<◌, ◌==◌, Option, None, Some, List, [], ◌∷◌, length, map, if◌then◌else◌}
use Rattle.std.specs.List.{All, slice_index_or}
use Rattle.hp_model.specs.declared.entry.Asked.{Asked}
use Rattle.hp_model.specs.declared.entry.Part.{Part}
use Rattle.hp_model.specs.declared.entry.Part.TheVariants.{Tasks, Slot as AtSlot, Pool as AtPool}
use Rattle.hp_model.specs.declared.entry.PoolEntry.{PoolEntry}
use Rattle.hp_model.specs.declared.entry.PoolEntry.TheVariants.{OfSlot, OfPool}
use Rattle.hp_model.specs.declared.entry.Receipt.{Receipt}
use Rattle.hp_model.specs.declared.entry.SlotEntry.{SlotEntry}
use Rattle.hp_model.specs.declared.entry.TableEntry.{TableEntry}
use Rattle.hp_model.specs.declared.event.Event.{Event}
use Rattle.hp_model.specs.declared.event.Event.TheVariants.{Tasks as OnTasks, Slot as OnSlot, Pool as OnPool}
use Rattle.hp_model.specs.declared.event.PoolEvent.{PoolEvent}
use Rattle.hp_model.specs.machine.Event.{IsEventRun}
use Rattle.hp_model.specs.threads.LocalRun.{IsLocalRun}
use Rattle.hp_model.specs.machine.Machine.{pool_of}
use Rattle.hp_model.specs.machine.Plan.{Reply, Slot}
use Rattle.hp_model.specs.pool.PoolCounts.{Pool}
use Rattle.hp_model.specs.threads.PoolRun.{IsPoolRun}
use Rattle.hp_model.specs.machine.State.{State, slot_at}
use Rattle.hp_model.specs.machine.Table.{Table}
use Rattle.hp_model.specs.threads.TableRun.{IsTableRun}

pub record Trails : Type 0 where
  pub tasks : List TableEntry
  pub slots : List (List SlotEntry)
  pub pool : List PoolEntry

abbrev pub slot_trail : Trails → ℕ → List SlotEntry
slot_trail t k = slice_index_or t.slots k []

-- an entry that is an event; a section of a slot's event is none
pub data Entry : Type 0 where
  InTasks : TableEntry → Entry
  InSlot : (slot : ℕ) → SlotEntry → Entry
  InPool : PoolEvent → Reply → Entry

-- one event of a joint run: its entry, the place of this in its trail, and the session that was told of it
pub record Item : Type 0 where
  pub entry : Entry
  pub place : ℕ
  pub by : ℕ

-- ---- lists

abbrev pub option_cons : {X : Type 0} → Option X → List X → List X
option_cons None xs = xs
option_cons (Some x) xs = x ∷ xs

-- what f gives of each, in order
abbrev pub keep : {X Y : Type 0} → (X → Option Y) → List X → List Y
keep f [] = []
keep f (x ∷ xs) = option_cons (f x) (keep f xs)

-- the members, each with its place
abbrev pub numbered : {X : Type 0} → ℕ → List X → List (ℕ × X)
numbered k [] = []
numbered k (x ∷ xs) = (k, x) ∷ numbered (k + 1) xs

-- ---- what an item is for each part

abbrev pub task_entry : Entry → Option TableEntry
task_entry (InTasks e) = Some e
task_entry other = None

abbrev pub slot_entry : ℕ → Entry → Option SlotEntry
slot_entry k (InSlot j e) = if j == k then Some e else None
slot_entry k other = None

-- the section as the pool's trail has it, with its place there
abbrev pub section_entry : Option Asked → Option (ℕ × PoolEntry)
section_entry None = None
section_entry (Some a) = Some (a.place, OfSlot a.section a.answer)

-- itself, or its section
abbrev pub pool_entry : ℕ → Entry → Option (ℕ × PoolEntry)
pool_entry place (InTasks e) = None
pool_entry place (InSlot k e) = section_entry e.asked
pool_entry place (InPool e r) = Some (place, OfPool e r)

abbrev pub placed : {X : Type 0} → ℕ → Option X → Option (ℕ × X)
placed place None = None
placed place (Some x) = Some (place, x)

abbrev pub task_part : Item → Option (ℕ × TableEntry)
task_part i = placed i.place (task_entry i.entry)

abbrev pub slot_part : ℕ → Item → Option (ℕ × SlotEntry)
slot_part k i = placed i.place (slot_entry k i.entry)

abbrev pub pool_part : Item → Option (ℕ × PoolEntry)
pool_part i = pool_entry i.place i.entry

abbrev pub IsThere : ℕ → Entry → Type 0
IsThere slots (InSlot k e) = k < slots
IsThere slots other = Unit {0}

-- the items are the entries of the trails: each trail's in its order, each once, and no others;
-- and each slot's entry with a section has it at its place in the pool's trail
pub record IsOrder (t : Trails) (items : List Item) : Type 0 where
  pub tasks : keep task_part items ≡ numbered 0 t.tasks
  pub slots : (k : ℕ) → k < length t.slots → keep (slot_part k) items ≡ numbered 0 (slot_trail t k)
  pub pool : keep pool_part items ≡ numbered 0 t.pool
  pub there : All (λ i. IsThere (length t.slots) i.entry) items

-- ---- the machine's events

abbrev pub event_of : Entry → Event × Reply
event_of (InTasks e) = (OnTasks e.event, e.reply)
event_of (InSlot k e) = (OnSlot k e.event, e.reply)
event_of (InPool e r) = (OnPool e, r)

abbrev pub IsJointRun : State → Trails → List Item → State → Type 0
IsJointRun s t items end = IsOrder t items × IsEventRun s (map (λ i. event_of i.entry) items) end

-- ---- receipts

abbrev pub part_of : Entry → Part
part_of (InTasks e) = Tasks
part_of (InSlot k e) = AtSlot k
part_of (InPool e r) = AtPool

abbrev pub receipt_of : Item → Receipt
receipt_of i = record {
  part = part_of i.entry;
  place = i.place;
  event = (event_of i.entry).0;
  reply = (event_of i.entry).1;
}

abbrev pub told : ℕ → Item → Option Receipt
told s i = if i.by == s then Some (receipt_of i) else None

-- the items are those that the sessions were told of: each receipt in its session's order, each
-- once, and no others
pub record IsTold (sessions : List (List Receipt)) (items : List Item) : Type 0 where
  pub each : (s : ℕ) → s < length sessions → keep (told s) items ≡ slice_index_or sessions s []
  pub by : All (λ i. i.by < length sessions) items

pub record Joins (t : Trails) (sessions : List (List Receipt)) (items : List Item) : Type 0 where
  pub order : IsOrder t items
  pub told : IsTold sessions items

-- ---- runs of the parts

-- each trail by itself is a run of its part, from the part of this state to this end
pub record AreRuns (s : State) (t : Trails) (table : Table) (ends : ℕ → Slot) (numbers : Pool) : Type 0 where
  pub count : length t.slots ≡ length s.slots
  pub tasks : IsTableRun (length s.nodes) s.table t.tasks table
  pub slots : (k : ℕ) → k < length s.slots
      → IsLocalRun s.page_size k (slot_at s k) (slot_trail t k) (ends k)
  pub pool : IsPoolRun (pool_of s) t.pool numbers

-- the state has so many slots, and ends in these parts
pub record HasParts (s : State) (long : ℕ) (tasks : Table) (ends : ℕ → Slot) (numbers : Pool) : Type 0 where
  pub count : length s.slots ≡ long
  pub table : s.table ≡ tasks
  pub slots : (k : ℕ) → k < long → slot_at s k ≡ ends k
  pub pool : pool_of s ≡ numbers
