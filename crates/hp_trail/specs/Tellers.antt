-- Which session tells of each event.
use Rattle.std.specs.Prelude.{◌≡◌, ◌≢◌, ◌⊎◌, ℕ, ◌+◌, ◌<◌, Option, None, Some, List, [], length, map, replicate}
use Rattle.std.specs.List.{slice_get, slice_index_or, slice_set}
use Rattle.std.specs.Option.{option_map}
use Rattle.hp_model.specs.declared.entry.Asked.{Asked}
use Rattle.hp_model.specs.declared.entry.Part.{Part}
use Rattle.hp_model.specs.declared.entry.Part.TheVariants.{Tasks, Slot as AtSlot, Pool as AtPool}
use Rattle.hp_model.specs.declared.entry.PoolEntry.{PoolEntry}
use Rattle.hp_model.specs.declared.entry.PoolEntry.TheVariants.{OfSlot}
use Rattle.hp_model.specs.declared.entry.Receipt.{Receipt}
use Rattle.hp_model.specs.declared.entry.SlotEntry.{SlotEntry}
use Rattle.hp_model.specs.declared.entry.TableEntry.{TableEntry}
use Rattle.hp_model.specs.declared.section.PoolAnswer.{PoolAnswer}
use Rattle.hp_model.specs.declared.section.Section.{Section}
use Rattle.hp_model.specs.threads.Differ.{Asks, HasReceipt, entry_at}
use Rattle.hp_model.specs.threads.JointRun.{Trails, slot_trail, Entry, InTasks, InSlot, InPool, event_of}

-- for each place of each trail the number of the session that tells of it, plus 1, or 0
pub record TellerRows : Type 0 where
  pub tasks : List ℕ
  pub slots : List (List ℕ)
  pub pool : List ℕ

abbrev pub row : TellerRows → Part → List ℕ
row w Tasks = w.tasks
row w (AtSlot k) = slice_index_or w.slots k []
row w AtPool = w.pool

abbrev pub teller : TellerRows → Part → ℕ → ℕ
teller w part place = slice_index_or (row w part) place 0

-- a row for each trail, as long as it
pub record Fit (t : Trails) (w : TellerRows) : Type 0 where
  pub tasks : length w.tasks ≡ length t.tasks
  pub count : length w.slots ≡ length t.slots
  pub slots : (k : ℕ) → length (slice_index_or w.slots k []) ≡ length (slot_trail t k)
  pub pool : length w.pool ≡ length t.pool

-- ---- one receipt

-- the receipt tells of this entry, which stands at its place
pub record TellsEntry (t : Trails) (r : Receipt) (entry : Entry) : Type 0 where
  pub there : entry_at t r.part r.place ≡ Some entry
  pub same : event_of entry ≡ (r.event, r.reply)

-- the session is noted at a place where none was
pub record Claims (row : List ℕ) (place s : ℕ) (row' : List ℕ) : Type 0 where
  pub within : place < length row
  pub free : slice_index_or row place 0 ≡ 0
  pub now : row' ≡ slice_set row place (s + 1)

-- the section stands at its place in the pool's trail
abbrev pub Stands : List PoolEntry → Asked → Type 0
Stands pool a = slice_get pool a.place ≡ Some (OfSlot a.section a.answer)

-- the section of an entry, if it has one, is claimed too
abbrev pub ClaimsSection : List PoolEntry → List ℕ → Option Asked → ℕ → List ℕ → Type 0
ClaimsSection pool row None s row' = row' ≡ row
ClaimsSection pool row (Some a) s row' = Stands pool a × Claims row a.place s row'

abbrev pub asked_section : Entry → Option Asked
asked_section (InTasks e) = None
asked_section (InSlot k e) = e.asked
asked_section (InPool e r) = None

-- a receipt of the session is added
pub record Added (t : Trails) (r : Receipt) (s : ℕ) (w w' : TellerRows) : Type 0 where
  pub entry : Entry
  pub tells : TellsEntry t r entry
  pub free : teller w r.part r.place ≡ 0
  pub own : teller w' r.part r.place ≡ s + 1
  pub section : (a : Asked) → asked_section entry ≡ Some a
      → Stands t.pool a × (teller w AtPool a.place ≡ 0) × (teller w' AtPool a.place ≡ s + 1)
  pub others : (part : Part) (place : ℕ)
      → (teller w' part place ≡ teller w part place)
      ⊎ (((part ≡ r.part) × (place ≡ r.place))
      ⊎ ((a : Asked) × (asked_section entry ≡ Some a) × (part ≡ AtPool) × (place ≡ a.place)))
  pub fit : Fit t w'

-- the section is not at its place in the pool's trail, or that place is claimed
abbrev pub IsNotFree : List PoolEntry → List ℕ → Asked → Type 0
IsNotFree pool row a =
    (slice_get pool a.place ≢ Some (OfSlot a.section a.answer))
    ⊎ (Stands pool a × (slice_index_or row a.place 0 ≢ 0))

-- a receipt can't be added: it does not tell what stands at its place, or a session tells of it
-- already, or the entry's section is no such section or is claimed
abbrev pub IsRefused : Trails → Receipt → TellerRows → Type 0
IsRefused t r w =
    (option_map event_of (entry_at t r.part r.place) ≢ Some (r.event, r.reply))
    ⊎ (((e : Entry) × TellsEntry t r e × (teller w r.part r.place ≢ 0))
    ⊎ ((e : Entry) × (a : Asked) × TellsEntry t r e × (asked_section e ≡ Some a)
    × (teller w r.part r.place ≡ 0)
    × IsNotFree t.pool w.pool a))

-- ---- one receipt, by its part

-- the receipt tells of this entry, if it is an event
abbrev pub TellsOf : Option Entry → Receipt → Type 0
TellsOf entry r = option_map event_of entry ≡ Some (r.event, r.reply)

-- the receipt tells of this entry of the trail
pub record Finds {X : Type 0} (entry : X → Option Entry) (trail : List X) (r : Receipt)
    (e : X) : Type 0 where
  pub there : slice_get trail r.place ≡ Some e
  pub same : TellsOf (entry e) r

-- the entry at the receipt's place, if any, is not what the receipt tells
abbrev pub Misses : {X : Type 0} → (X → Option Entry) → List X → Receipt → Type 0
Misses {X} entry trail r = (e : X) → slice_get trail r.place ≡ Some e → TellsOf (entry e) r → ⊥

-- an entry's session is noted
abbrev pub AddsEntry : {X : Type 0} → (X → Option Entry) → List X → List ℕ → Receipt → ℕ → List ℕ
    → Type 0
AddsEntry {X} entry trail row r s row' = (e : X) × Finds entry trail r e × Claims row r.place s row'

-- or can't be
abbrev pub RefusesEntry : {X : Type 0} → (X → Option Entry) → List X → List ℕ → Receipt → Type 0
RefusesEntry {X} entry trail row r = Misses entry trail r
    ⊎ ((e : X) × Finds entry trail r e × (slice_index_or row r.place 0 ≢ 0))

abbrev pub entry_of_tasks : TableEntry → Option Entry
entry_of_tasks e = Some (InTasks e)

abbrev pub entry_of_slot : ℕ → SlotEntry → Option Entry
entry_of_slot k e = Some (InSlot k e)

abbrev pub RefusesSection : List PoolEntry → List ℕ → Option Asked → Type 0
RefusesSection pool row None = ⊥
RefusesSection pool row (Some a) = IsNotFree pool row a

-- a slot's event's session is noted, with its section's
pub record AddsSlot (slots : List (List SlotEntry)) (pool : List PoolEntry)
    (rows : List (List ℕ)) (row : List ℕ) (k : ℕ) (r : Receipt) (s : ℕ)
    (rows' : List (List ℕ)) (row' : List ℕ) : Type 0 where
  pub entry : SlotEntry
  pub finds : Finds (entry_of_slot k) (slice_index_or slots k []) r entry
  pub claimed : List ℕ
  pub claims : Claims (slice_index_or rows k []) r.place s claimed
  pub moves : rows' ≡ slice_set rows k claimed
  pub section : ClaimsSection pool row entry.asked s row'

abbrev pub RefusesSlot : List (List SlotEntry) → List PoolEntry → List (List ℕ) → List ℕ → ℕ
    → Receipt → Type 0
RefusesSlot slots pool rows row k r =
    RefusesEntry (entry_of_slot k) (slice_index_or slots k []) (slice_index_or rows k []) r
    ⊎ ((e : SlotEntry) × Finds (entry_of_slot k) (slice_index_or slots k []) r e
    × (slice_index_or (slice_index_or rows k []) r.place 0 ≡ 0)
    × RefusesSection pool row e.asked)

-- ---- all receipts

-- a row where no session is noted
abbrev pub blank : {X : Type 0} → List X → List ℕ
blank trail = replicate (length trail) 0

abbrev pub no_tellers : ℕ → List (List SlotEntry) → ℕ → TellerRows
no_tellers tasks slots pool =
    record { tasks = replicate tasks 0; slots = map blank slots; pool = replicate pool 0 }

-- receipt i of session u comes before receipt j of session s
abbrev pub IsPast : (s j u i : ℕ) → Type 0
IsPast s j u i = (u < s) ⊎ ((u ≡ s) × (i < j))

-- the place has this session's receipt, or the section of this receipt's entry
pub record Source (t : Trails) (receipts : List (List Receipt)) (s j : ℕ) (w : TellerRows)
    (part : Part) (place : ℕ) : Type 0 where
  pub session : ℕ
  pub i : ℕ
  pub receipt : Receipt
  pub past : IsPast s j session i
  pub has : HasReceipt receipts session i receipt
  pub noted : teller w part place ≡ session + 1
  pub is : ((receipt.part ≡ part) × (receipt.place ≡ place))
      ⊎ ((k : ℕ) × (a : Asked) × (receipt.part ≡ AtSlot k) × Asks t k receipt.place a
      × (part ≡ AtPool) × (a.place ≡ place))

-- the receipts before receipt j of session s are those that the rows tell of
pub record AreListed (t : Trails) (receipts : List (List Receipt)) (s j : ℕ)
    (w : TellerRows) : Type 0 where
  pub right : (u i : ℕ) (r : Receipt) → IsPast s j u i → HasReceipt receipts u i r
      → (e : Entry) × TellsEntry t r e
  pub noted : (u i : ℕ) (r : Receipt) → IsPast s j u i → HasReceipt receipts u i r
      → teller w r.part r.place ≡ u + 1
  pub section : (u i : ℕ) (r : Receipt) (k : ℕ) (a : Asked) → IsPast s j u i → HasReceipt receipts u i r
      → r.part ≡ AtSlot k → Asks t k r.place a
      → Stands t.pool a × (teller w AtPool a.place ≡ u + 1)
  pub source : (part : Part) (place : ℕ) → teller w part place ≢ 0
      → Source t receipts s j w part place
  pub once : (u i v h : ℕ) (r q : Receipt) → IsPast s j u i → IsPast s j v h
      → HasReceipt receipts u i r → HasReceipt receipts v h q
      → r.part ≡ q.part → r.place ≡ q.place → (u ≡ v) × (i ≡ h)
  pub apart : (u i v h : ℕ) (r q : Receipt) (k l : ℕ) (a b : Asked) → IsPast s j u i
      → IsPast s j v h → HasReceipt receipts u i r → HasReceipt receipts v h q
      → r.part ≡ AtSlot k → q.part ≡ AtSlot l → Asks t k r.place a → Asks t l q.place b
      → a.place ≡ b.place → (u ≡ v) × (i ≡ h)

-- each receipt tells what stands at its place
abbrev pub AreRight : Trails → List (List Receipt) → Type 0
AreRight t receipts = (s i : ℕ) (r : Receipt) → HasReceipt receipts s i r → (e : Entry) × TellsEntry t r e

-- and the section of what it tells of stands at its place in the pool's trail
abbrev pub HaveSections : Trails → List (List Receipt) → Type 0
HaveSections t receipts = (s i : ℕ) (r : Receipt) (k : ℕ) (a : Asked) → HasReceipt receipts s i r
    → r.part ≡ AtSlot k → Asks t k r.place a → Stands t.pool a

-- a place that no session tells of: of the task table, of a slot, or of the pool where no other
-- is left
pub record Gap (w : TellerRows) : Type 0 where
  pub part : Part
  pub place : ℕ
  pub within : place < length (row w part)
  pub none : teller w part place ≡ 0
  pub slots : part ≡ AtPool → (k i : ℕ) → i < length (slice_index_or w.slots k [])
      → slice_index_or (slice_index_or w.slots k []) i 0 ≢ 0

abbrev pub NoGap : TellerRows → Type 0
NoGap w = (part : Part) (place : ℕ) → place < length (row w part) → teller w part place ≢ 0

-- trails and receipts fit each other but for their order: each receipt tells of an event, each
-- event has one receipt, and each section in the pool's trail is that of one slot's entry
pub record AreTold (t : Trails) (receipts : List (List Receipt)) (w : TellerRows) : Type 0 where
  pub right : AreRight t receipts
  pub noted : (s i : ℕ) (r : Receipt) → HasReceipt receipts s i r → teller w r.part r.place ≡ s + 1
  pub section : (s i : ℕ) (r : Receipt) (k : ℕ) (a : Asked) → HasReceipt receipts s i r
      → r.part ≡ AtSlot k → Asks t k r.place a
      → Stands t.pool a × (teller w AtPool a.place ≡ s + 1)
  pub once : (s i u j : ℕ) (r q : Receipt) → HasReceipt receipts s i r → HasReceipt receipts u j q
      → r.part ≡ q.part → r.place ≡ q.place → (s ≡ u) × (i ≡ j)
  pub apart : (s i u j : ℕ) (r q : Receipt) (k l : ℕ) (a b : Asked) → HasReceipt receipts s i r
      → HasReceipt receipts u j q
      → r.part ≡ AtSlot k → q.part ≡ AtSlot l → Asks t k r.place a → Asks t l q.place b
      → a.place ≡ b.place → (s ≡ u) × (i ≡ j)
  pub told : (part : Part) (place : ℕ) → entry_at t part place ≢ None
      → (s : ℕ) × (j : ℕ) × (r : Receipt) × HasReceipt receipts s j r × (r.part ≡ part) × (r.place ≡ place)
  pub claimed : (place : ℕ) (section : Section) (answer : PoolAnswer)
      → slice_get t.pool place ≡ Some (OfSlot section answer)
      → (k : ℕ) × (i : ℕ) × (a : Asked) × Asks t k i a × (a.place ≡ place)
