-- Why trails and receipts can't belong to one run.
use Rattle.std.specs.Prelude.{◌≡◌, ◌≢◌, ◌⊎◌, ℕ, ◌<◌, Bool, true, Option, None, Some, List, []}
use Rattle.std.specs.List.{slice_get, slice_index_or}
use Rattle.std.specs.Option.{option_map, option_and_then}
use Rattle.hp_model.specs.declared.entry.Asked.{Asked}
use Rattle.hp_model.specs.declared.entry.Part.{Part}
use Rattle.hp_model.specs.declared.entry.Part.TheVariants.{Tasks, Slot as AtSlot, Pool as AtPool}
use Rattle.hp_model.specs.declared.entry.PoolEntry.{PoolEntry}
use Rattle.hp_model.specs.declared.entry.PoolEntry.TheVariants.{OfSlot, OfPool}
use Rattle.hp_model.specs.declared.entry.Receipt.{Receipt}
use Rattle.hp_model.specs.declared.entry.SlotEntry.{SlotEntry}
use Rattle.hp_model.specs.declared.section.PoolAnswer.{PoolAnswer}
use Rattle.hp_model.specs.declared.section.Section.{Section}
use Rattle.hp_model.specs.threads.JointRun.{Trails, slot_trail, Entry, InTasks, InSlot, InPool, event_of}

-- ---- sections

-- the slot's entry at this place has this section
pub record Asks (t : Trails) (slot place : ℕ) (asked : Asked) : Type 0 where
  pub entry : SlotEntry
  pub there : slice_get (slot_trail t slot) place ≡ Some entry
  pub asks : entry.asked ≡ Some asked

-- a slot's section is not what the pool's trail has at its place
pub record WrongSection (t : Trails) : Type 0 where
  pub slot : ℕ
  pub place : ℕ
  pub asked : Asked
  pub asks : Asks t slot place asked
  pub other : slice_get t.pool asked.place ≢ Some (OfSlot asked.section asked.answer)

-- two entries of slots have their section at one place
pub record SharedSection (t : Trails) : Type 0 where
  pub slot : ℕ
  pub place : ℕ
  pub asked : Asked
  pub slot' : ℕ
  pub place' : ℕ
  pub asked' : Asked
  pub asks : Asks t slot place asked
  pub asks' : Asks t slot' place' asked'
  pub apart : (slot ≡ slot') × (place ≡ place') → ⊥
  pub same : asked.place ≡ asked'.place

-- a section in the pool's trail is of no slot's entry
pub record LostSection (t : Trails) : Type 0 where
  pub place : ℕ
  pub section : Section
  pub answer : PoolAnswer
  pub there : slice_get t.pool place ≡ Some (OfSlot section answer)
  pub lost : (slot i : ℕ) (asked : Asked) → Asks t slot i asked → asked.place ≢ place

-- ---- receipts

abbrev pub of_pool : PoolEntry → Option Entry
of_pool (OfSlot section answer) = None
of_pool (OfPool event reply) = Some (InPool event reply)

-- the entry at this place of the part's trail, where it is an event
abbrev pub entry_at : Trails → Part → ℕ → Option Entry
entry_at t Tasks i = option_map InTasks (slice_get t.tasks i)
entry_at t (AtSlot k) i = option_map (InSlot k) (slice_get (slot_trail t k) i)
entry_at t AtPool i = option_and_then of_pool (slice_get t.pool i)

-- the session's receipt at this place
abbrev pub HasReceipt : List (List Receipt) → (session i : ℕ) → Receipt → Type 0
HasReceipt sessions session i r = slice_get (slice_index_or sessions session []) i ≡ Some r

-- a receipt does not tell what stands at its place
pub record WrongReceipt (t : Trails) (sessions : List (List Receipt)) : Type 0 where
  pub session : ℕ
  pub i : ℕ
  pub receipt : Receipt
  pub has : HasReceipt sessions session i receipt
  pub other : option_map event_of (entry_at t receipt.part receipt.place)
      ≢ Some (receipt.event, receipt.reply)

-- two receipts tell of one place
pub record ToldTwice (sessions : List (List Receipt)) : Type 0 where
  pub session : ℕ
  pub i : ℕ
  pub receipt : Receipt
  pub session' : ℕ
  pub i' : ℕ
  pub receipt' : Receipt
  pub has : HasReceipt sessions session i receipt
  pub has' : HasReceipt sessions session' i' receipt'
  pub apart : (session ≡ session') × (i ≡ i') → ⊥
  pub part : receipt.part ≡ receipt'.part
  pub place : receipt.place ≡ receipt'.place

-- no receipt tells of an event
pub record Untold (t : Trails) (sessions : List (List Receipt)) : Type 0 where
  pub part : Part
  pub place : ℕ
  pub entry : Entry
  pub there : entry_at t part place ≡ Some entry
  pub untold : (session i : ℕ) (r : Receipt) → HasReceipt sessions session i r
      → (r.part ≡ part) × (r.place ≡ place) → ⊥

-- ---- orders

-- the entry stands in the pool's trail there, itself or by its section
abbrev pub InPoolAt : Trails → Part → ℕ → ℕ → Type 0
InPoolAt t Tasks i place = ⊥
InPoolAt t (AtSlot k) i place = (a : Asked) × Asks t k i a × (a.place ≡ place)
InPoolAt t AtPool i place = i ≡ place

-- the entry at i of part a must come before the one at j of part b
abbrev pub IsBefore : Trails → List (List Receipt) → (a : Part) (i : ℕ) (b : Part) (j : ℕ) → Type 0
IsBefore t sessions a i b j =
    ((a ≡ b) × (i < j))
    ⊎ (((m : ℕ) × (n : ℕ) × InPoolAt t a i m × InPoolAt t b j n × (m < n))
    ⊎ ((session : ℕ) × (m : ℕ) × (n : ℕ) × (r : Receipt) × (q : Receipt)
    × HasReceipt sessions session m r × HasReceipt sessions session n q × (m < n)
    × (r.part ≡ a) × (r.place ≡ i) × (q.part ≡ b) × (q.place ≡ j)))

-- some events, each of which has another of them before it: no order has them all
pub record HasCircle (t : Trails) (sessions : List (List Receipt)) : Type 0 where
  pub set : Part → ℕ → Bool
  pub part : Part
  pub place : ℕ
  pub some : (set part place ≡ true) × (entry_at t part place ≢ None)
  pub each : (b : Part) (j : ℕ) → set b j ≡ true → entry_at t b j ≢ None
      → (a : Part) × (i : ℕ) × (set a i ≡ true) × (entry_at t a i ≢ None)
      × ((a ≡ b) × (i ≡ j) → ⊥) × IsBefore t sessions a i b j

-- the receipts are one list for each session
abbrev pub Differ : Trails → List (List Receipt) → Type 0
Differ t sessions =
    WrongSection t
    ⊎ (SharedSection t
    ⊎ (LostSection t
    ⊎ (WrongReceipt t sessions
    ⊎ (ToldTwice sessions ⊎ (Untold t sessions ⊎ HasCircle t sessions)))))
