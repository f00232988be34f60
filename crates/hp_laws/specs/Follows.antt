-- What follows from the promises of each step: what names and numbers mean afterwards, and what they show.
use Rattle.std.specs.Prelude.{◌≡◌, ◌⊎◌, ℕ, ◌≤◌, ◌&&◌, ◌||◌, ◌==◌, Bool, true, false, not, Option, None, Some, is_some, Ok, List, length, min, sum, if◌then◌else◌, nat_le}
use Rattle.std.specs.List.{count_by, list_all}
use Rattle.std.specs.Str.{bytes_eq}
use Rattle.hp_model.specs.declared.place.Place.{Place}
use Rattle.hp_model.specs.declared.step.Intent.{Intent}
use Rattle.hp_model.specs.declared.step.Intent.TheVariants.{Read, Write}
use Rattle.hp_model.specs.declared.step.Sharing.{Sharing}
use Rattle.hp_model.specs.declared.step.Step.{Step}
use Rattle.hp_model.specs.declared.step.Step.TheVariants.{Anon, Connect, Create, Df, Exit, Fault, Fork, Load, Ls, Map as MapStep, Mount as MountStep, Nr, Overcommit, Preallocate}
use Rattle.hp_model.specs.declared.step.Step.TheVariants.{Punch as PunchStep, Read as ReadStep, Remount, Stat, Store, Truncate as TruncateStep, Umount, Unlink as UnlinkStep}
use Rattle.hp_model.specs.declared.step.Step.TheVariants.{Unmap as UnmapStep}
use Rattle.hp_model.specs.files.CopyWrite.{holds}
use Rattle.hp_model.specs.files.File.{File, Mount, cell_at, file_in, has_page, map_in, maps_of}
use Rattle.hp_model.specs.files.GiveBack.{is_kept}
use Rattle.hp_model.specs.files.Mapping.{Map, copy_of, is_map, is_mapped, is_shared, no_map, place_at, without_range}
use Rattle.hp_model.specs.files.Page.{Copy, zeros}
use Rattle.hp_model.specs.files.Spot.{Spot}
use Rattle.hp_model.specs.files.Value.{shown, value}
use Rattle.hp_model.specs.machine.Footprint.{There, frames_in, over}
use Rattle.hp_model.specs.machine.Named.{is_in, map_named, named_on}
use Rattle.hp_model.specs.machine.Plan.{Reply, Slot}
use Rattle.hp_model.specs.machine.SlotEvent.{has_name}
use Rattle.hp_model.specs.machine.State.{State, slot_at}
use Rattle.hp_model.specs.machine.Table.{home_of}
use Rattle.hp_model.specs.machine.Tests.{is_cut_off}

-- ---- where names and numbers stand

abbrev pub is_shared_of : Option Spot → ℕ → Bool
is_shared_of None file = false
is_shared_of (Some s) file = is_shared s.map.sharing && (s.file_no == file)

-- the name means that file
abbrev pub means_file : Slot → List ℕ → (file : ℕ) → Bool
means_file slot name file = elim (named_on slot name) [ None ↦ false | Some f ↦ f.0 == file ]

-- the map of the task with the number stands there
abbrev pub is_at : Option Spot → (file map : ℕ) → Bool
is_at None file map = false
is_at (Some s) file map = (s.file_no == file) && (s.map_no == map)

-- whether an index of the map stays mapped
abbrev pub stays_mapped : Option Spot → (from to : ℕ) → Bool
stays_mapped None from to = false
stays_mapped (Some s) from to = is_mapped (without_range from to s.map)

-- ---- what files and maps show

abbrev pub shown_on : (size : ℕ) → Slot → (file i : ℕ) → List ℕ
shown_on size None file i = zeros size
shown_on size (Some m) file i = shown size (cell_at (file_in m file) i)

-- the bytes at an index of the file at this place of the slot; zeros where there is no page
abbrev pub shown_in : State → (slot file i : ℕ) → List ℕ
shown_in s slot file i = shown_on s.page_size (slot_at s slot) file i

-- what the step makes of the bytes there: a store through a shared map of that file writes them, and what is cut off or punched is zeros
abbrev pub stored_over : State → Step → Reply → (slot file i : ℕ) → List ℕ → List ℕ
stored_over s (Store task slot number i offset bytes) (Ok a) k file j old =
    if (slot == k) && ((i == j) && is_shared_of (map_named s slot task number) file) then over offset bytes old else old
stored_over s (TruncateStep slot name n) (Ok a) k file j old =
    if (slot == k) && (means_file (slot_at s k) name file && nat_le n j) then zeros s.page_size else old
stored_over s (PunchStep slot name from to) (Ok a) k file j old =
    if (slot == k) && (means_file (slot_at s k) name file && is_in from to j) then zeros s.page_size else old
stored_over s step reply k file j old = old

abbrev pub map_on : Slot → (file map : ℕ) → Map
map_on None file map = no_map
map_on (Some m) file map = map_in (file_in m file) map

-- the map at this place of the file
abbrev pub map_at : State → (slot file map : ℕ) → Map
map_at s slot file map = map_on (slot_at s slot) file map

abbrev pub seen_on : (size : ℕ) → Slot → (file map i : ℕ) → List ℕ
seen_on size None file map i = zeros size
seen_on size (Some m) file map i = value size (file_in m file) (map_in (file_in m file) map) i

-- the bytes that it shows at an index of the file
abbrev pub seen_in : State → (slot file map i : ℕ) → List ℕ
seen_in s slot file map i = seen_on s.page_size (slot_at s slot) file map i

-- a store through a shared map reaches the maps of its file that have no copy there, one through a private map that map alone
abbrev pub reaches : Option Spot → Map → (file map i : ℕ) → Bool
reaches None old file map i = false
reaches (Some s) old file map i = (s.file_no == file) && (if is_shared s.map.sharing then not (is_some (copy_of (place_at old i))) else (s.map_no == map))

-- what the step makes of the bytes that a map shows: a store writes them, what is cut off or punched is zeros, and where a map is unmapped
-- the file is left
abbrev pub seen_over : State → Step → Reply → (slot file map i : ℕ) → List ℕ → List ℕ
seen_over s (Store task slot number i offset bytes) (Ok a) k file map j old =
    if (slot == k) && ((i == j) && reaches (map_named s slot task number) (map_at s k file map) file map j) then over offset bytes old else old
seen_over s (TruncateStep slot name n) (Ok a) k file map j old =
    if (slot == k) && (means_file (slot_at s k) name file && nat_le n j) then zeros s.page_size else old
seen_over s (PunchStep slot name from to) (Ok a) k file map j old =
    if (slot == k) && (means_file (slot_at s k) name file && is_in from to j) then zeros s.page_size else old
seen_over s (UnmapStep task slot number from to) (Ok a) k file map j old =
    if (slot == k) && (is_at (map_named s slot task number) file map && is_in from to j) then shown_in s k file j else old
seen_over s step reply k file map j old = old

-- ---- copies that an owner takes back

abbrev pub is_same_copy : Place Copy → Place Copy → Bool
is_same_copy p q = elim (copy_of p) [ None ↦ false | Some copy ↦ holds copy.stamp q ]

-- a map held the copy that an owner's map, `own` and then `after`, writes into: at the very index of that write
-- the owner has it still, and the map, which is marked, has none
pub record IsLost (own after : Map) (i : ℕ) (old new : Map) (j : ℕ) : Type 0 where
  pub index : j ≡ i
  pub private : is_shared own.sharing ≡ false
  pub owner : own.owner ≡ true
  pub held : is_same_copy (place_at own i) (place_at old j) ≡ true
  pub kept : is_same_copy (place_at own i) (place_at after i) ≡ true
  pub lost : copy_of (place_at new j) ≡ None
  pub marked : new.unmapped ≡ true

-- another map of the owner's file, p before and q after, has lost its copy to it
abbrev pub IsLostTo : (owner after : Option Spot) → (i : ℕ) (p q : Spot) (j : ℕ) → Type 0
IsLostTo (Some o) (Some a) i p q j =
    (o.file_no ≡ p.file_no) × IsLost o.map a.map i p.map q.map j × (p.map_no ≡ o.map_no → ⊥)
IsLostTo owner after i p q j = ⊥

-- the copy went to the map of the task with the number, as it was and is
abbrev pub IsTakenBy : State → State → (slot task number i : ℕ) (p q : Spot) (j : ℕ) → Type 0
IsTakenBy s t slot task number i p q j =
    IsLostTo (map_named s slot task number) (map_named t slot task number) i p q j

-- only an owner's store and its write fault take copies back
abbrev pub LosesTo : State → Step → State → (slot : ℕ) (p q : Spot) (j : ℕ) → Type 0
LosesTo s (Store task slot number i offset bytes) t k p q j = (slot ≡ k) × IsTakenBy s t slot task number i p q j
LosesTo s (Fault task slot number i Write) t k p q j = (slot ≡ k) × IsTakenBy s t slot task number i p q j
LosesTo s step t k p q j = ⊥

-- ---- what a step ends

-- the slot's mount, and all its files, went by this step
abbrev pub is_unmounted : Step → Reply → ℕ → Bool
is_unmounted (Umount k) (Ok a) slot = k == slot
is_unmounted step reply slot = false

-- the limits of the slot's mount were ended by this step: a remount set others, or the mount went
abbrev pub is_relimited : Step → Reply → ℕ → Bool
is_relimited (Remount k options) (Ok a) slot = k == slot
is_relimited step reply slot = is_unmounted step reply slot

-- the name was ended by this step: it was unlinked, or its mount went
abbrev pub is_ended_name : Step → Reply → (slot : ℕ) → List ℕ → Bool
is_ended_name (UnlinkStep k gone) (Ok a) slot name = (k == slot) && bytes_eq gone name
is_ended_name step reply slot name = is_unmounted step reply slot

-- the number was ended by this step: its last index was unmapped, its task left, its mount went; or a fork ended the child's old maps
abbrev pub is_ended_number : State → Step → Reply → (slot task number : ℕ) → Bool
is_ended_number s (Exit gone) (Ok a) slot task number = gone == task
is_ended_number s (Fork parent child) reply slot task number = child == task
is_ended_number s (UnmapStep owner k gone from to) (Ok a) slot task number =
    (k == slot) && ((owner == task) && ((gone == number) && not (stays_mapped (map_named s slot task number) from to)))
is_ended_number s step reply slot task number = is_unmounted step reply slot

-- ---- slots that a step is on

-- a fork and an exit are on all slots; steps of tasks and of the pool are on none
abbrev pub is_on : Step → (slot : ℕ) → Bool
is_on (Fork parent child) slot = true
is_on (Exit task) slot = true
is_on (MountStep k options) slot = k == slot
is_on (Remount k options) slot = k == slot
is_on (Umount k) slot = k == slot
is_on (Create k name) slot = k == slot
is_on (UnlinkStep k name) slot = k == slot
is_on (TruncateStep k name n) slot = k == slot
is_on (PunchStep k name a b) slot = k == slot
is_on (Preallocate k name a b) slot = k == slot
is_on (ReadStep k name i offset count) slot = k == slot
is_on (Ls k) slot = k == slot
is_on (Stat k name) slot = k == slot
is_on (Df k) slot = k == slot
is_on (MapStep task k name a n sharing reserving) slot = k == slot
is_on (Anon task n sharing reserving) slot = 0 == slot
is_on (UnmapStep task k number a b) slot = k == slot
is_on (Fault task k number i intent) slot = k == slot
is_on (Load task k number i offset count) slot = k == slot
is_on (Store task k number i offset bytes) slot = k == slot
is_on step slot = false

-- ---- what names and numbers mean afterwards

-- the name has a file, which shows these bytes at the index
abbrev pub StillNamed : (size : ℕ) → Slot → List ℕ → (i : ℕ) → List ℕ → Type 0
StillNamed size slot name i bytes = (g : ℕ × File) × (named_on slot name ≡ Some g) × (shown size (cell_at g.1 i) ≡ bytes)

-- what a map keeps as long as it is there
pub record Shape : Type 0 where
  pub task : ℕ
  pub number : ℕ
  pub start : ℕ
  pub pages : ℕ
  pub sharing : Sharing
  pub owner : Bool

abbrev pub shape_of : Map → Shape
shape_of m =
    record {
      task = m.task;
      number = m.number;
      start = m.start;
      pages = length m.places;
      sharing = m.sharing;
      owner = m.owner;
    }

-- the name means the file that the map is of
abbrev pub IsNameOf : Slot → List ℕ → Spot → Type 0
IsNameOf slot name p = named_on slot name ≡ Some (p.file_no, p.file)

-- the bytes at an index are as they were, but for what the step makes of them
abbrev pub StillShows : State → Step → Reply → State → (slot : ℕ) (p q : Spot) (i : ℕ) → Type 0
StillShows s step reply t slot p q i =
    value t.page_size q.file q.map i ≡ seen_over s step reply slot p.file_no p.map_no i (value s.page_size p.file p.map i)

-- a map, p before and q after, has its range, sharing, ownership and file; marked, it stays marked; it shows what it
-- showed at the index, or has lost its copy there
pub record StillMapped (s : State) (step : Step) (reply : Reply) (t : State) (slot : ℕ) (p q : Spot) (i : ℕ) : Type 0 where
  pub shape : shape_of q.map ≡ shape_of p.map
  pub file : (name : List ℕ) → is_ended_name step reply slot name ≡ false
      → IsNameOf (slot_at s slot) name p → IsNameOf (slot_at t slot) name q
  pub marked : p.map.unmapped ≡ true → q.map.unmapped ≡ true
  pub shows : StillShows s step reply t slot p q i ⊎ LosesTo s step t slot p q i

-- the task's number, by this pair, means the map, and the step does not end it
abbrev pub IsKeptMap : State → Step → Reply → (slot : ℕ) → ℕ × ℕ → Spot → Type 0
IsKeptMap s step reply slot a p =
    (is_ended_number s step reply slot a.0 a.1 ≡ false) × (map_named s slot a.0 a.1 ≡ Some p)

-- two maps are of one file just where they were
abbrev pub SameFiles : Bool → Option Spot → Option Spot → Type 0
SameFiles together (Some p) (Some q) = (p.file_no == q.file_no) ≡ together
SameFiles together p q = ⊥

-- ---- mounts, files and pages

-- the mount stays, and has the limits that it had
abbrev pub SameLimits : (old new : Slot) → Type 0
SameLimits None new = Unit {0}
SameLimits (Some m) None = ⊥
SameLimits (Some m) (Some n) = n.limits ≡ m.limits

-- each file has a name or a map
abbrev pub are_held : Slot → Bool
are_held None = true
are_held (Some m) = list_all is_kept m.files

-- a name is of one file at most, and a task's number of one map
pub record IsOnce (m : Mount) : Type 0 where
  pub names : (name : List ℕ) → count_by (has_name name) m.files ≤ 1
  pub numbers : (task number : ℕ) → count_by (is_map task number) (maps_of m) ≤ 1

abbrev pub AreOnce : Slot → Type 0
AreOnce None = Unit {0}
AreOnce (Some m) = IsOnce m

-- the map has a page to read there, its own or the file's; to write into, a private one has its own
abbrev pub has_its_page : Intent → ℕ → File → Map → Bool
has_its_page Read i f m = is_some (copy_of (place_at m i)) || has_page (cell_at f i)
has_its_page Write i f m =
    if is_shared m.sharing then has_page (cell_at f i) else is_some (copy_of (place_at m i))

-- an access that is answered leaves its page there
abbrev pub Touches : Step → Reply → State → Type 0
Touches (Fault task k number i intent) (Ok a) t =
    There (map_named t k task number) (λ p. has_its_page intent i p.file p.map ≡ true)
Touches (Load task k number i offset count) (Ok a) t =
    There (map_named t k task number) (λ p. has_its_page Read i p.file p.map ≡ true)
Touches (Store task k number i offset bytes) (Ok a) t =
    There (map_named t k task number) (λ p. has_its_page Write i p.file p.map ≡ true)
Touches step reply t = Unit {0}

-- the access is not through a marked map that has no copy there
abbrev pub IsStopped : State → Step → Reply → Type 0
IsStopped s (Fault task k number i intent) (Ok a) = is_cut_off (map_named s k task number) i ≡ false
IsStopped s (Load task k number i offset count) (Ok a) = is_cut_off (map_named s k task number) i ≡ false
IsStopped s (Store task k number i offset bytes) (Ok a) = is_cut_off (map_named s k task number) i ≡ false
IsStopped s step reply = Unit {0}

-- an umount leaves no mount there, an exit no map of its task on any slot, an unlink no file of the name, and an unmap no map of the
-- number of which no index is left
abbrev pub IsGone : Step → Reply → State → Type 0
IsGone (Umount k) (Ok a) t = slot_at t k ≡ None
IsGone (Exit task) (Ok a) t = (slot number : ℕ) → map_named t slot task number ≡ None
IsGone (UnlinkStep k name) (Ok a) t = named_on (slot_at t k) name ≡ None
IsGone (UnmapStep task k number from to) (Ok a) t =
    (q : Spot) → map_named t k task number ≡ Some q → is_mapped q.map ≡ true
IsGone step reply t = Unit {0}

-- the map as it was, with its copies, marks and reservations, and all cells of its file
abbrev pub IsSame : (p q : Spot) → Type 0
IsSame p q = (q.map ≡ p.map) × (q.file.cells ≡ p.file.cells)

-- every map of other tasks is so
abbrev pub AreWhole : (gone : ℕ) → (s t : State) → Type 0
AreWhole gone s t =
    (slot task number : ℕ) (p : Spot) → (gone == task) ≡ false
    → map_named s slot task number ≡ Some p → There (map_named t slot task number) (IsSame p)

-- an exit and a fork leave whole what is not the task's, or the child's
abbrev pub LeavesWhole : State → Step → State → Type 0
LeavesWhole s (Exit gone) t = AreWhole gone s t
LeavesWhole s (Fork parent child) t = AreWhole child s t
LeavesWhole s step t = Unit {0}

-- ---- the tasks, nr and overcommit

-- a task's home afterwards: one that connects has the home that it named, a child its parent's, and one that left none; others keep theirs
abbrev pub home_after : State → Step → Reply → (task : ℕ) → Option ℕ
home_after s (Connect new home) (Ok a) task = if new == task then Some home else home_of s.table task
home_after s (Fork parent child) (Ok a) task = if child == task then home_of s.table parent else home_of s.table task
home_after s (Exit gone) (Ok a) task = if gone == task then None else home_of s.table task
home_after s step reply task = home_of s.table task

-- as many as were asked for, or as there are frames
abbrev pub nr_after : State → Step → Reply → ℕ
nr_after s (Nr n) (Ok a) = min n (sum (frames_in s))
nr_after s step reply = s.nr

abbrev pub overcommit_after : State → Step → Reply → ℕ
overcommit_after s (Overcommit n) (Ok a) = n
overcommit_after s step reply = s.overcommit

pub record IsSet (s : State) (step : Step) (reply : Reply) (t : State) : Type 0 where
  pub homes : (task : ℕ) → home_of t.table task ≡ home_after s step reply task
  pub nr : t.nr ≡ nr_after s step reply
  pub overcommit : t.overcommit ≡ overcommit_after s step reply

-- ---- a step

pub record Follows (s : State) (step : Step) (reply : Reply) (t : State) : Type 0 where
  -- a step leaves every slot that it is not on as it was
  pub elsewhere : (slot : ℕ) → is_on step slot ≡ false → slot_at t slot ≡ slot_at s slot
  -- what the step makes of tasks, nr and overcommit, and nothing else does
  pub settings : IsSet s step reply t
  -- a mount stays until its umount, and its limits until its umount or a remount
  pub mounts : (slot : ℕ) → is_relimited step reply slot ≡ false → SameLimits (slot_at s slot) (slot_at t slot)
  -- each name keeps its file, which shows what it showed, but for what a step stores, cuts off or punches
  pub files : (slot : ℕ) (name : List ℕ) (i : ℕ) (f : ℕ × File) → is_ended_name step reply slot name ≡ false → named_on (slot_at s slot) name ≡ Some f
      → StillNamed t.page_size (slot_at t slot) name i (stored_over s step reply slot f.0 i (shown s.page_size (cell_at f.1 i)))
  -- each number of a task keeps its map, with its file, range, sharing and ownership, and the map shows what it showed,
  -- but for what a store reaches; or it has lost its copy at that index to the owner that stored there
  pub maps : (slot task number i : ℕ) (p : Spot) → is_ended_number s step reply slot task number ≡ false → map_named s slot task number ≡ Some p
      → (q : Spot) × (map_named t slot task number ≡ Some q) × StillMapped s step reply t slot p q i
  -- of the maps that are kept those of one file, with a name or without, are of one file still, and others are not
  pub together : (slot : ℕ) (a b : ℕ × ℕ) (p o : Spot)
      → IsKeptMap s step reply slot a p → IsKeptMap s step reply slot b o
      → SameFiles (p.file_no == o.file_no) (map_named t slot a.0 a.1) (map_named t slot b.0 b.1)
  -- a fork and an exit leave every map of other tasks as it was
  pub whole : LeavesWhole s step t
  -- an access that is answered leaves its page there for its map
  pub touched : Touches step reply t
  -- an access through a marked map is not answered where it has no copy
  pub cut_off : IsStopped s step reply
  -- what a step ends is gone: a mount, a task's maps, a file's name, and the number of a map that is all unmapped
  pub gone : IsGone step reply t
  -- a file that has neither name nor map is gone, with its pages and entries
  pub held : (slot : ℕ) → are_held (slot_at s slot) ≡ true → are_held (slot_at t slot) ≡ true
  -- a name is of one file, and a task's number of one map
  pub once : (slot : ℕ) → AreOnce (slot_at t slot)
