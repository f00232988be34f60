-- Walking through trails and receipts: what a list of items has joined so far.
use Rattle.std.specs.Prelude.{◌≡◌, ◌≢◌, ◌⊎◌, ℕ, suc, ◌+◌, ◌-◌, ◌<◌, ◌≤◌, Option, None, Some, List, [], ◌∷◌, length, map, take, replicate}
use Rattle.std.specs.Global.{Vec}
use Rattle.std.specs.Option.{option_and_then}
use Rattle.hp_trail.specs.Tellers.{Stands, asked_section}
use Rattle.std.specs.List.{All, Contains, slice_get, slice_index_or, slice_set}
use Rattle.hp_model.specs.declared.entry.Asked.{Asked}
use Rattle.hp_model.specs.declared.entry.Part.{Part}
use Rattle.hp_model.specs.declared.entry.Part.TheVariants.{Tasks, Slot as AtSlot, Pool as AtPool}
use Rattle.hp_model.specs.declared.entry.PoolEntry.{PoolEntry}
use Rattle.hp_model.specs.declared.entry.Receipt.{Receipt}
use Rattle.hp_model.specs.declared.entry.SlotEntry.{SlotEntry}
use Rattle.hp_model.specs.declared.entry.TableEntry.{TableEntry}
use Rattle.hp_model.specs.threads.Differ.{Asks, HasReceipt, entry_at}
use Rattle.hp_model.specs.threads.JointRun.{Trails, slot_trail, Item, keep, numbered, task_part, slot_part, pool_part, part_of, told, IsThere, IsTold, Joins}

abbrev pub lists : {X : Type 0} → List (Vec X) → List (List X)
lists vs = map (λ v. v.items) vs

abbrev pub trails_of : List TableEntry → List (Vec SlotEntry) → List PoolEntry → Trails
trails_of tasks slots pool = record { tasks = tasks; slots = lists slots; pool = pool }

-- how far each trail and each session's receipts were passed
pub record Cursors : Type 0 where
  pub tasks : ℕ
  pub slots : List ℕ
  pub pool : ℕ
  pub sessions : List ℕ

-- trails and receipts, and how far a walk through them has come
pub record Walking : Type 0 where
  pub trails : Trails
  pub receipts : List (List Receipt)
  pub cursors : Cursors

abbrev pub cursor_at : List ℕ → ℕ → ℕ
cursor_at cursors k = slice_index_or cursors k 0

-- the place that comes next in the part's trail
abbrev pub cursor : Cursors → Part → ℕ
cursor c Tasks = c.tasks
cursor c (AtSlot k) = cursor_at c.slots k
cursor c AtPool = c.pool

abbrev pub part_length : Trails → Part → ℕ
part_length t Tasks = length t.tasks
part_length t (AtSlot k) = length (slot_trail t k)
part_length t AtPool = length t.pool

-- what comes next in the part's trail is passed
abbrev pub past : Part → Cursors → Cursors
past Tasks c = record c { tasks = c.tasks + 1 }
past (AtSlot k) c = record c { slots = slice_set c.slots k (cursor_at c.slots k + 1) }
past AtPool c = record c { pool = c.pool + 1 }

-- ---- the section of the entry that comes next in the part's trail

abbrev pub next_section : Trails → Cursors → Part → Option Asked
next_section t c part = option_and_then asked_section (entry_at t part (cursor c part))

-- it stands at its place in the pool's trail
abbrev pub SectionStands : Trails → Option Asked → Type 0
SectionStands t None = Unit {0}
SectionStands t (Some a) = Stands t.pool a

-- where there is one, it comes next there
abbrev pub ComesNext : Cursors → Option Asked → Type 0
ComesNext c None = Unit {0}
ComesNext c (Some a) = a.place ≡ c.pool

-- there is one that does not
abbrev pub IsLater : Cursors → Option Asked → Type 0
IsLater c None = ⊥
IsLater c (Some a) = a.place ≢ c.pool

-- it is passed
abbrev pub past_section : Option Asked → Cursors → Cursors
past_section None c = c
past_section (Some a) c = past AtPool c

abbrev pub session : List (List Receipt) → ℕ → List Receipt
session sessions s = slice_index_or sessions s []

-- the items are all that was passed, in each trail's and each session's order
pub record Walked (t : Trails) (sessions : List (List Receipt)) (c : Cursors)
    (items : List Item) : Type 0 where
  pub tasks : keep task_part items ≡ numbered 0 (take c.tasks t.tasks)
  pub slots : (k : ℕ) → k < length t.slots
      → keep (slot_part k) items ≡ numbered 0 (take (cursor_at c.slots k) (slot_trail t k))
  pub pool : keep pool_part items ≡ numbered 0 (take c.pool t.pool)
  pub there : All (λ i. IsThere (length t.slots) i.entry) items
  pub told : (s : ℕ) → s < length sessions
      → keep (told s) items ≡ take (cursor_at c.sessions s) (session sessions s)
  pub by : All (λ i. i.by < length sessions) items

-- the cursor goes on by what comes next, where there is something, and stays where there is nothing
abbrev pub GoesNumbered : {X : Type 0} → List X → ℕ → Option (ℕ × X) → ℕ → Type 0
GoesNumbered xs c None d = d ≡ c
GoesNumbered xs c (Some p) d = (p.0 ≡ c) × (slice_get xs c ≡ Some p.1) × (d ≡ c + 1)

abbrev pub GoesOn : {X : Type 0} → List X → ℕ → Option X → ℕ → Type 0
GoesOn xs c None d = d ≡ c
GoesOn xs c (Some x) d = (slice_get xs c ≡ Some x) × (d ≡ c + 1)

-- the item comes next in each of its parts, and the cursors pass it
pub record Passes (t : Trails) (sessions : List (List Receipt)) (c : Cursors) (i : Item)
    (d : Cursors) : Type 0 where
  pub tasks : GoesNumbered t.tasks c.tasks (task_part i) d.tasks
  pub slots : (k : ℕ) → k < length t.slots
      → GoesNumbered (slot_trail t k) (cursor_at c.slots k) (slot_part k i) (cursor_at d.slots k)
  pub pool : GoesNumbered t.pool c.pool (pool_part i) d.pool
  pub there : IsThere (length t.slots) i.entry
  pub told : (s : ℕ) → s < length sessions
      → GoesOn (session sessions s) (cursor_at c.sessions s) (told s i) (cursor_at d.sessions s)
  pub by : i.by < length sessions

-- the next receipt of the session is passed, with an event of this part
abbrev pub Took : Trails → List (List Receipt) → ℕ → Part → Cursors → Cursors → Type 0
Took t receipts s part c d = (i : Item) × Passes t receipts c i d × (i.by ≡ s)
    × (part_of i.entry ≡ part)

-- the receipt comes next in the session
abbrev pub HasNext : Walking → ℕ → Receipt → Type 0
HasNext w s r = HasReceipt w.receipts s (cursor_at w.cursors.sessions s) r

-- the part and place of the receipt that comes next, if there is one
abbrev pub IsNext : Walking → ℕ → Option (Part × ℕ) → Type 0
IsNext w s None = (r : Receipt) → HasNext w s r → ⊥
IsNext w s (Some x) = (r : Receipt) × HasNext w s r × (r.part ≡ x.0) × (r.place ≡ x.1)

-- the receipt's event does not come next in its trail, or its section does not in the pool's
abbrev pub IsBlocked : Trails → Cursors → Receipt → Type 0
IsBlocked t c r =
    (r.place ≢ cursor c r.part)
    ⊎ ((k : ℕ) × (asked : Asked) × (r.part ≡ AtSlot k) × Asks t k r.place asked
    × (asked.place ≢ c.pool))

-- the session is at its end, or its next receipt is blocked
abbrev pub Waits : Trails → List (List Receipt) → Cursors → ℕ → Type 0
Waits t receipts c s = (r : Receipt) → HasReceipt receipts s (cursor_at c.sessions s) r → IsBlocked t c r

-- what an attempt to pass the session's next receipt does: it passes an event of the part, or the
-- session waits
abbrev pub Passed : Walking → ℕ → Option Part → Walking → Type 0
Passed old s None new = (new ≡ old) × Waits old.trails old.receipts old.cursors s
Passed old s (Some part) new =
    (new.trails ≡ old.trails) × (new.receipts ≡ old.receipts)
    × Took old.trails old.receipts s part old.cursors new.cursors

-- ---- the whole walk

abbrev pub at_start : (slots sessions : ℕ) → Cursors
at_start slots sessions =
    record { tasks = 0; slots = replicate slots 0; pool = 0; sessions = replicate sessions 0 }

-- every receipt was passed
abbrev pub HaveEnded : List (List Receipt) → Cursors → Type 0
HaveEnded receipts c = (s : ℕ) → s < length receipts → length (session receipts s) ≤ cursor_at c.sessions s

-- some receipt was not
abbrev pub HasReceiptsLeft : List (List Receipt) → Cursors → Type 0
HasReceiptsLeft receipts c = (s : ℕ) × (s < length receipts)
    × (cursor_at c.sessions s < length (session receipts s))

-- items that were passed in this order of sessions
abbrev pub WalkedBy : Trails → List (List Receipt) → Cursors → List ℕ → Type 0
WalkedBy t receipts c order = (items : List Item) × Walked t receipts c items
    × (map (λ i. i.by) items ≡ order)

-- some items join the trails and the receipts, and this is the order of the sessions that were
-- told of them
abbrev pub JoinsBy : Trails → List (List Receipt) → List ℕ → Type 0
JoinsBy t receipts order = (items : List Item) × Joins t receipts items
    × (map (λ i. i.by) items ≡ order)

-- each session is among those to be tried, or waits
abbrev pub AreCovered : Trails → List (List Receipt) → Cursors → List ℕ → Type 0
AreCovered t receipts c work = (s : ℕ) → s < length receipts → Contains work s
    ⊎ Waits t receipts c s

-- how many receipts were not passed
abbrev pub receipts_left : List (List Receipt) → (ℕ → ℕ) → ℕ
receipts_left [] passed = 0
receipts_left (rs ∷ sessions) passed =
    (length rs - passed 0) + receipts_left sessions (λ s. passed (suc s))

-- the session that tells of something, if there is one, is to be tried as well
pub record IsWoken (told : ℕ) (old new : List ℕ) : Type 0 where
  pub kept : (s : ℕ) → Contains old s → Contains new s
  pub woken : (s : ℕ) → told ≡ s + 1 → Contains new s
  pub long : length new ≤ length old + 1

-- some items are all that the sessions were told of, and this is the order of their sessions
abbrev pub AreToldBy : List (List Receipt) → List ℕ → Type 0
AreToldBy receipts order = (items : List Item) × IsTold receipts items
    × (map (λ i. i.by) items ≡ order)
