-- What the pool under its lock is to a contract.
use Rattle.std.specs.Prelude.{[], ◌∷◌, ◌++◌, ◌≡◌, ℕ, ◌+◌, ◌*◌, ◌<◌, ◌≤◌, Bool, true, false, Option, None, Some, List, length, nat_lt}
use Rattle.std.specs.Bool.{MatchBool}
use Rattle.std.specs.List.{filter, sum}
use Rattle.hp_model.specs.declared.entry.Asked.{Asked}
use Rattle.hp_model.specs.declared.entry.PoolEntry.{PoolEntry}
use Rattle.hp_model.specs.declared.entry.PoolEntry.TheVariants.{OfSlot}
use Rattle.hp_model.specs.declared.entry.Receipt.{Receipt}
use Rattle.hp_model.specs.declared.section.PoolAnswer.{PoolAnswer}
use Rattle.hp_model.specs.declared.section.Section.{Section}
use Rattle.hp_model.specs.declared.section.Section.TheVariants.{GiveBack}
use Rattle.hp_model.specs.machine.Settled.{IsSettledPool}
use Rattle.hp_model.specs.pool.NodeRows.{frames_of}
use Rattle.hp_model.specs.pool.Pool.{granted_at, no_pages, section}
use Rattle.hp_model.specs.pool.PoolCounts.{Pool}
use Rattle.hp_model.specs.threads.Closing.{to_return}
use Rattle.hp_model.specs.threads.PoolRun.{IsPoolRun}
use Rattle.hp_mount_door.specs.Door.{IsReady}
use Rattle.hp_subpool.specs.Subpool.{Subpool, rise, with_reserves}
use Rattle.atomic_table.specs.Seated.{TableId}
use Rattle.hp_history.specs.declared.held.Held.{Held}
use Rattle.hp_history.specs.Sections.{pool_in, pool_view, told_more}
use Rattle.hp_trail.specs.Keeping.{has_room, with_entry}

-- the frames of each node that a machine has: of its four names of nodes those with some
abbrev pub frames_list : (ℕ → ℕ) → List ℕ
frames_list frames = filter (λ n. nat_lt 0 n) (frames 0 ∷ frames 1 ∷ frames 2 ∷ frames 3 ∷ [])

-- the pool's numbers, its trail as the history has it, and as it is kept, if it is, with the places left there
pub record CoreView : Type 0 where
  pub pool : Pool
  pub run : List PoolEntry
  pub entries : Option (List PoolEntry)
  pub left : Option ℕ
  pub extra : ℕ

abbrev pub core_view : Pool → List PoolEntry → Option (List PoolEntry) → Option ℕ → ℕ → CoreView
core_view p run entries left extra = record { pool = p; run = run; entries = entries; left = left; extra = extra }

-- from the start the trail is a run of the pool that ends in these numbers
abbrev pub IsPoolTrail : Pool → Option (List PoolEntry) → Pool → Type 0
IsPoolTrail start None p = Unit {0}
IsPoolTrail start (Some es) p = IsPoolRun start es p

-- so many places are left, where they are counted
abbrev pub HasPlaces : Option ℕ → ℕ → Type 0
HasPlaces None n = Unit {0}
HasPlaces (Some left) n = n ≤ left

-- what holds of the pool under its lock: a place is left for each section that could yet give back
pub record IsCore (start : Pool) (entries : Option (List PoolEntry)) (left : Option ℕ) (extra : ℕ) (p : Pool) : Type 0 where
  pub trail : IsPoolTrail start entries p
  pub ready : IsReady p
  pub settled : IsSettledPool p
  pub frames : frames_of p.nodes.rows ≡ frames_of start.nodes.rows
  pub enough : 2 * frames_of start.nodes.rows ≤ extra
  pub places : HasPlaces left (to_return p)

-- where the trail is kept it is this one
abbrev pub IsTrailOf : {E : Type 0} → List E → Option (List E) → Type 0
IsTrailOf run None = Unit {0}
IsTrailOf run (Some es) = es ≡ run

-- the pool's seat in the history has its trail, which is a run of it from the start to these numbers
pub record IsSeated (history : TableId) (start : Pool) (id : TableId) (views : List (List Held)) (entries : Option (List PoolEntry)) (p : Pool) : Type 0 where
  pub named : id ≡ history
  pub one : views ≡ pool_view views ∷ []
  pub run : IsPoolRun start (pool_in views) p
  pub kept : IsTrailOf (pool_in views) entries

-- the pool's seat in the history has its trail
pub record IsPoolSeat (history : TableId) (id : TableId) (views : List (List Held)) (entries : Option (List PoolEntry)) : Type 0 where
  pub named : id ≡ history
  pub one : views ≡ pool_view views ∷ []
  pub kept : IsTrailOf (pool_in views) entries

-- a session's seat, which waits for nothing, and was told of an event more
pub record IsToldMore (history : TableId) (id : TableId) (me : List Held × List (ℕ × Unit {0})) (v : List Held) (r : Receipt) : Type 0 where
  pub named : id ≡ history
  pub told : me ≡ (told_more v r ∷ [], [])

-- what is told of the place of an entry
abbrev pub IsPlace : {E : Type 0} → Option (List E) → ℕ → Type 0
IsPlace None n = n ≡ 0
IsPlace (Some es) n = n ≡ length es

-- a section added its entry, changed the numbers by it, and gave its answer and its place
pub record IsSection (old new : CoreView) (asked : Asked) : Type 0 where
  pub changes : section old.pool asked.section ≡ (asked.answer, new.pool)
  pub run : new.run ≡ old.run ++ OfSlot asked.section asked.answer ∷ []
  pub entries : new.entries ≡ with_entry old.entries (OfSlot asked.section asked.answer)
  pub place : IsPlace old.entries asked.place

-- the trail is full: nothing changed, and the session's seat has entered nothing
pub record IsFull (keeps : Bool) (old new : CoreView) (me left : List Held × List (ℕ × Unit {0})) : Type 0 where
  pub full : has_room false old.left old.extra ≡ false
  pub kept : keeps ≡ true
  pub same : new ≡ old
  pub unheard : left ≡ me

-- reservations that the minimum covers: no section
pub record IsUnasked (k : ℕ) (old new : CoreView) (share left : Subpool) : Type 0 where
  pub none : rise share k ≡ 0
  pub same : new ≡ old
  pub reserved : left ≡ with_reserves k share

-- granted, with the share so, or refused with the share as it was
abbrev pub IsAnswered : PoolAnswer → (old granted new : Subpool) → Type 0
IsAnswered a old granted new = MatchBool a.granted ((a ≡ granted_at 0) × (new ≡ granted)) ((a ≡ no_pages) × (new ≡ old))

-- pages, by node, and commitments went back by a section; or there was nothing to give back, and no section
abbrev pub IsGiven : (puts : List ℕ) → (commitments : ℕ) → (old new : CoreView) → Option Asked → Type 0
IsGiven puts commitments old new None = (new ≡ old) × (sum puts + commitments ≡ 0)
IsGiven puts commitments old new (Some a) =
    IsSection old new a × (a.section ≡ GiveBack puts commitments) × (a.answer ≡ granted_at 0) × (0 < sum puts + commitments)

-- the section that an event entered, and what its seat has of the history
pub record DoorView : Type 0 where
  pub asked : Option Asked
  pub mine : List Held

-- this section, so answered, at some place
abbrev pub HasAsked : Option Asked → Section → PoolAnswer → Type 0
HasAsked t s a = (place : ℕ) × (t ≡ Some (record { place = place; section = s; answer = a }))

-- a trail with nothing in it yet
abbrev pub IsNewTrail : {E : Type 0} → Option (List E) → Type 0
IsNewTrail None = Unit {0}
IsNewTrail (Some es) = es ≡ []
