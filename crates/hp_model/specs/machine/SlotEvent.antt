-- The events of a slot.
use Rattle.std.specs.Prelude.{ℕ, ◌+◌, ◌-◌, ◌&&◌, ◌||◌, ◌==◌, Bool, false, not, max, Option, None, Some, is_some, Result}
use Rattle.std.specs.Prelude.{Ok, Err, List, [], ◌∷◌, ◌++◌, length, take, drop, replicate, if◌then◌else◌, nat_lt, nat_le}
use Rattle.std.specs.List.{list_all, count_by, filter_map}
use Rattle.std.specs.Str.{bytes_eq}
use Rattle.hp_model.specs.declared.answer.Answer.{Answer}
use Rattle.hp_model.specs.declared.answer.Answer.TheVariants.{Done, MapNo, Bytes, Stat as StatAnswer, Usage as UsageAnswer, Names}
use Rattle.hp_model.specs.declared.refusal.Refusal.{Refusal}
use Rattle.hp_model.specs.declared.refusal.Refusal.TheVariants.{OutOfMemory, NoPages, MountFull, BeyondEnd, NoSuchSlot, SlotTaken, NoSuchFile, FileExists}
use Rattle.hp_model.specs.declared.refusal.Refusal.TheVariants.{NoInodes, BadName, NoSuchMap, OutOfRange, CrossesPage, Busy, TooMany}
use Rattle.hp_model.specs.declared.event.SlotEvent.{SlotEvent as EventOver}
use Rattle.hp_model.specs.declared.event.SlotEvent.TheVariants.{Mount as MountEvent, Remount, Umount, Create, Unlink, Truncate, Punch, Preallocate, Read as ReadEvent, Ls, Stat}
use Rattle.hp_model.specs.declared.event.SlotEvent.TheVariants.{Df, Map as MapEvent, Anon, Unmap, Fault, Load, Store, ForkMaps, ExitMaps}
use Rattle.hp_model.specs.declared.step.Intent.{Intent}
use Rattle.hp_model.specs.declared.step.Sharing.{Sharing}
use Rattle.hp_model.specs.declared.step.Reserving.{Reserving}
use Rattle.hp_model.specs.declared.step.Intent.TheVariants.{Read, Write}
use Rattle.hp_model.specs.declared.step.Reserving.TheVariants.{Reserve}
use Rattle.hp_model.specs.declared.step.Sharing.TheVariants.{Shared}
use Rattle.hp_model.specs.files.Access.{access}
use Rattle.hp_model.specs.files.File.{File, cell_at, is_entered, has_page, with_file, maps_of, new_file, Mount}
use Rattle.hp_model.specs.files.Fill.{lacking, range_filled, rising_nodes}
use Rattle.hp_model.specs.files.Fork.{forked}
use Rattle.hp_model.specs.files.GiveBack.{unmapped_from, without_task, punched, truncated, unlinked, swept}
use Rattle.hp_model.specs.pool.Grant.{is_full, is_over, rise}
use Rattle.hp_model.specs.Lists.{found, is_among}
use Rattle.hp_model.specs.files.MakeMap.{tasks_of, next_number, asked, mapped, with_new}
use Rattle.hp_model.specs.files.Mapping.{place_at, is_live, is_map}
use Rattle.hp_model.specs.files.MountCounts.{committed_of, usage_of}
use Rattle.hp_model.specs.files.Options.{wanted_of, limits}
use Rattle.hp_model.specs.machine.Plan.{Slot, Outcome, Refused, Answered, Plan, Finish, Ask, Choice, refuse, unless, with_value, and_then, grant, gives, when_granted}
use Rattle.hp_model.specs.pool.Pool.{Section, FillPages, ReadAndGrant, ReadAndGiveBack, GrantAndReturn, PoolAnswer}
use Rattle.hp_model.specs.Profile.{most_files, most_maps, most_tasks, most_file_pages, most_map_pages, most_bytes, most_name_bytes}
use Rattle.hp_model.specs.files.Spot.{Spot, spot, written, again}
use Rattle.hp_model.specs.files.Value.{shown, value}
use Rattle.hp_model.specs.declared.limits.Limits.{Limits}

-- an event of a slot, with the lists of the bytes that it carries
abbrev pub SlotEvent : Type 0
SlotEvent = EventOver (List ℕ)

-- ---- names

abbrev pub has_name : List ℕ → File → Bool
has_name name f = elim f.name [ None ↦ false | Some n ↦ bytes_eq n name ]

abbrev pub file_named : Mount → List ℕ → Option (ℕ × File)
file_named m name = found (has_name name) m.files

abbrev pub is_between : ℕ → ℕ → ℕ → Bool
is_between a b c = nat_le a c && nat_le c b

-- one of A-Z a-z 0-9 . _ -
abbrev pub is_name_byte : ℕ → Bool
is_name_byte c = is_between 65 90 c || is_between 97 122 c || is_between 48 57 c || (c == 46) || (c == 95) || (c == 45)

abbrev pub is_name : List ℕ → Bool
is_name name = is_between 1 most_name_bytes (length name) && list_all is_name_byte name

-- ---- mount

abbrev pub mount_pages : Choice → Result Limits Refusal → ℕ
mount_pages c (Err e) = 0
mount_pages c (Ok l) = if c.refused then 0 else l.min

abbrev pub mount_section : Choice → ℕ → Section
mount_section c d = if c.after_grant then GrantAndReturn d else ReadAndGrant d

abbrev pub mount_outcome : Choice → PoolAnswer → Result Limits Refusal → Outcome
mount_outcome c a (Err e) = Refused e
mount_outcome c a (Ok l) =
    if c.refused then Refused OutOfMemory
    else if not a.granted then Refused NoPages
    else if c.after_grant then Refused OutOfMemory
    else Answered Done (Some (record { limits = l; files = [] }))

abbrev pub mount_on : Choice → (size : ℕ) → List ℕ → Plan
mount_on c size text =
    Ask (λ nr. mount_section c (mount_pages c (limits nr size (wanted_of text))))
    (λ a. mount_outcome c a (limits a.nr size (wanted_of text)))

-- ---- remount

-- what the pool has committed to the mount with this minimum
abbrev pub committed_with : Mount → (min : ℕ) → ℕ
committed_with m min = max (usage_of m) min

-- a remount reads nr, with what the new minimum adds to the mount's commitments, or takes from them
abbrev pub remount_section : Mount → Result Limits Refusal → Section
remount_section m (Err e) = ReadAndGrant 0
remount_section m (Ok l) =
    if nat_lt (committed_with m l.min) (committed_of m)
    then ReadAndGiveBack (committed_of m - committed_with m l.min)
    else ReadAndGrant (committed_with m l.min - committed_of m)

-- the mount has these limits, and its files as they were
abbrev pub remount_outcome : Mount → PoolAnswer → Result Limits Refusal → Outcome
remount_outcome m a (Err e) = Refused e
remount_outcome m a (Ok l) = if a.granted then Answered Done (Some (record m { limits = l })) else Refused NoPages

abbrev pub remount_tests : (slot : ℕ) → List (Bool × Refusal)
remount_tests slot = (slot == 0, SlotTaken) ∷ []

abbrev pub remount : (size slot : ℕ) → Mount → List ℕ → Plan
remount size slot m text =
    unless (remount_tests slot)
    (Ask (λ nr. remount_section m (limits nr size (wanted_of text))) (λ a. remount_outcome m a (limits a.nr size (wanted_of text))))

-- ---- umount

abbrev pub has_maps : Mount → Bool
has_maps m = nat_lt 0 (length (maps_of m))

abbrev pub umount_tests : (slot : ℕ) → Mount → List (Bool × Refusal)
umount_tests slot m = (slot == 0, Busy) ∷ (has_maps m, Busy) ∷ []

abbrev pub umount : (slot : ℕ) → Mount → Plan
umount slot m = unless (umount_tests slot m) (gives Done (Some m) None)

-- ---- files

abbrev pub create_tests : Choice → Mount → List ℕ → List (Bool × Refusal)
create_tests c m name =
    (not (is_name name), BadName) ∷ (is_some (file_named m name), FileExists) ∷ (nat_le most_files (length m.files), TooMany)
    ∷ (is_over m.limits.inodes (length m.files + 1), NoInodes) ∷ (c.refused, OutOfMemory) ∷ []

abbrev pub create : Choice → Mount → List ℕ → Plan
create c m name =
    unless (create_tests c m name)
    (Finish (Answered Done (Some (with_new m (new_file (Some name))))))

abbrev pub edited : Mount → ℕ → File → Slot
edited m k f = Some (swept (with_file m k f))

abbrev pub unlink : Mount → ℕ × File → Plan
unlink m f = gives Done (Some m) (edited m f.0 (unlinked f.1))

abbrev pub truncate : Mount → (n : ℕ) → ℕ × File → Plan
truncate m n f = unless ((nat_lt most_file_pages n, OutOfRange) ∷ []) (gives Done (Some m) (edited m f.0 (truncated n f.1)))

-- empty, or past the last index that a file may have
abbrev pub is_bad_range : ℕ → ℕ → Bool
is_bad_range a b = nat_le b a || nat_lt most_file_pages b

abbrev pub punch : Mount → (a b : ℕ) → ℕ × File → Plan
punch m a b f = unless ((is_bad_range a b, OutOfRange) ∷ []) (gives Done (Some m) (edited m f.0 (punched a b f.1)))

-- ---- preallocate

abbrev pub preallocate_tests : (a b : ℕ) → List (Bool × Refusal)
preallocate_tests a b = (is_bad_range a b, OutOfRange) ∷ (nat_lt most_map_pages (b - a), TooMany) ∷ []

-- the indices from a up to b without an entry
abbrev pub unentered : (a b : ℕ) → File → ℕ
unentered a b f = asked Shared Reserve a (b - a) f

-- the file with pages of the nodes that the pool answers
abbrev pub preallocated : (size : ℕ) → Mount → (a b : ℕ) → ℕ × File → PoolAnswer → Outcome
preallocated size m a b f answer =
    when_granted (Answered Done (Some (with_file m f.0 (range_filled size a b (rising_nodes (lacking a b f.1) answer.pages) f.1)))) answer

-- what has no entry is granted, and a page is taken for each index without one
abbrev pub fill : Choice → (size : ℕ) → Mount → (a b : ℕ) → ℕ × File → Plan
fill c size m a b f =
    unless ((is_full m (unentered a b f.1), MountFull) ∷ (c.refused, OutOfMemory) ∷ [])
    (Ask (λ nr. FillPages (rise m (unentered a b f.1)) (lacking a b f.1)) (preallocated size m a b f))

abbrev pub preallocate : Choice → (size : ℕ) → Mount → (a b : ℕ) → ℕ × File → Plan
preallocate c size m a b f =
    unless (preallocate_tests a b)
    (if lacking a b f.1 == 0 then Finish (Answered Done (Some m)) else fill c size m a b f)

-- ---- what a file tells

abbrev pub bytes_answer : (offset count : ℕ) → List ℕ → Answer
bytes_answer offset count page = Bytes count (take count (drop offset page) ++ replicate (most_bytes - count) 0)

abbrev pub span_tests : (size offset count : ℕ) → List (Bool × Refusal)
span_tests size offset count = (nat_lt size (offset + count), CrossesPage) ∷ (nat_lt most_bytes count, TooMany) ∷ []

abbrev pub read_tests : (size : ℕ) → (i offset count : ℕ) → File → List (Bool × Refusal)
read_tests size i offset count f = ((count == 0) || nat_le (length f.cells) i, OutOfRange) ∷ span_tests size offset count

abbrev pub read : (size : ℕ) → Mount → (i offset count : ℕ) → ℕ × File → Plan
read size m i offset count f =
    unless (read_tests size i offset count f.1)
    (Finish (Answered (bytes_answer offset count (shown size (cell_at f.1 i))) (Some m)))

abbrev pub stat : Mount → ℕ × File → Plan
stat m f =
    Finish (Answered (StatAnswer (length f.1.cells) (count_by has_page f.1.cells) (count_by is_entered f.1.cells) (length f.1.maps)) (Some m))

abbrev pub list : Choice → Mount → Plan
list c m = unless ((c.refused, OutOfMemory) ∷ []) (Finish (Answered (Names (filter_map (λ f. f.name) m.files)) (Some m)))

abbrev pub usage : Mount → Plan
usage m = Finish (Answered (UsageAnswer m.limits.max m.limits.min (usage_of m) m.limits.inodes (length m.files)) (Some m))

-- ---- making maps

-- one task more has maps
abbrev pub is_new_task_over : Mount → ℕ → Bool
is_new_task_over m task = not (is_among task (tasks_of m)) && nat_le most_tasks (length (tasks_of m))

abbrev pub are_too_many_maps : Mount → ℕ → Bool
are_too_many_maps m task = nat_le most_maps (length (maps_of m)) || is_new_task_over m task

abbrev pub map_tests : Mount → (task a n : ℕ) → List (Bool × Refusal)
map_tests m task a n =
    ((n == 0) || nat_lt most_file_pages (a + n), OutOfRange) ∷ (nat_lt most_map_pages n || are_too_many_maps m task, TooMany) ∷ []

abbrev pub map_file : Choice → Mount → (task home a n : ℕ) → Sharing → Reserving → ℕ × File → Plan
map_file c m task home a n sharing reserving f =
    unless (map_tests m task a n)
    (grant c m home (asked sharing reserving a n f.1)
    (Answered (MapNo (next_number task m)) (Some (with_file m f.0 (mapped task (next_number task m) a n sharing reserving f.1)))))

abbrev pub anon_tests : Mount → (task n : ℕ) → List (Bool × Refusal)
anon_tests m task n =
    ((n == 0) || nat_lt most_file_pages n, OutOfRange)
    ∷ (nat_lt most_map_pages n || are_too_many_maps m task || nat_le most_files (length m.files), TooMany)
    ∷ (is_over m.limits.inodes (length m.files + 1), NoInodes) ∷ []

abbrev pub map_anon : Choice → Mount → (task home n : ℕ) → Sharing → Reserving → Plan
map_anon c m task home n sharing reserving =
    unless (anon_tests m task n)
    (grant c m home (asked sharing reserving 0 n (new_file None))
    (Answered (MapNo (next_number task m)) (Some (with_new m (mapped task (next_number task m) 0 n sharing reserving (new_file None))))))

-- ---- maps in use

abbrev pub unmap : Mount → (task number a b : ℕ) → Spot → Plan
unmap m task number a b s =
    unless ((is_bad_range a b, OutOfRange) ∷ []) (gives Done (Some m) (Some (unmapped_from task number a b m)))

abbrev pub is_unmapped : Spot → ℕ → Bool
is_unmapped s i = not (is_live (place_at s.map i))

abbrev pub is_beyond : Spot → ℕ → Bool
is_beyond s i = nat_le (length s.file.cells) i

abbrev pub fault_tests : (i : ℕ) → Spot → List (Bool × Refusal)
fault_tests i s = (is_unmapped s i, OutOfRange) ∷ (is_beyond s i, BeyondEnd) ∷ []

abbrev pub fault : Choice → (size : ℕ) → Mount → (home i : ℕ) → Intent → Spot → Plan
fault c size m home i intent s = unless (fault_tests i s) (access c size m s home i intent)

abbrev pub byte_tests : (size : ℕ) → (i offset count : ℕ) → Spot → List (Bool × Refusal)
byte_tests size i offset count s =
    (is_unmapped s i || (count == 0), OutOfRange) ∷ (nat_lt size (offset + count), CrossesPage) ∷ (nat_lt most_bytes count, TooMany)
    ∷ (is_beyond s i, BeyondEnd) ∷ []

abbrev pub byte_access : Choice → (size : ℕ) → Mount → (home i offset count : ℕ) → Intent → Spot → Plan
byte_access c size m home i offset count intent s =
    unless (byte_tests size i offset count s)
    (access c size m s home i intent)

abbrev pub load : Choice → (size : ℕ) → Mount → (home i offset count : ℕ) → Spot → Plan
load c size m home i offset count s =
    and_then (λ n. Answered (bytes_answer offset count (value size (again n s).file (again n s).map i)) (Some n))
    (byte_access c size m home i offset count Read s)

abbrev pub store : Choice → (size : ℕ) → Mount → (home i offset : ℕ) → List ℕ → Spot → Plan
store c size m home i offset bytes s =
    and_then (λ n. Answered Done (Some (written n s i offset bytes))) (byte_access c size m home i offset (length bytes) Write s)

-- ---- fork and exit

abbrev pub fork_tests : Choice → Mount → (parent child : ℕ) → List (Bool × Refusal)
fork_tests c m parent child =
    (nat_lt most_maps (length (maps_of (forked parent child m))) || nat_lt most_tasks (length (tasks_of (forked parent child m))), TooMany)
    ∷ (c.refused, OutOfMemory) ∷ []

abbrev pub fork_maps : Choice → Mount → (parent child : ℕ) → Plan
fork_maps c m parent child =
    unless (fork_tests c m parent child)
    (gives Done (Some m) (Some (forked parent child m)))

abbrev pub exit_maps : Mount → (task : ℕ) → Plan
exit_maps m task = gives Done (Some m) (Some (without_task task m))

-- ---- all events

abbrev pub on_mount : (size slot : ℕ) → Choice → Mount → SlotEvent → Plan
on_mount size slot c m (MountEvent options) = refuse SlotTaken
on_mount size slot c m (Remount options) = remount size slot m options
on_mount size slot c m Umount = umount slot m
on_mount size slot c m (Create name) = create c m name
on_mount size slot c m (Unlink name) = with_value (file_named m name) NoSuchFile (unlink m)
on_mount size slot c m (Truncate name pages) = with_value (file_named m name) NoSuchFile (truncate m pages)
on_mount size slot c m (Punch name a b) = with_value (file_named m name) NoSuchFile (punch m a b)
on_mount size slot c m (Preallocate name a b) = with_value (file_named m name) NoSuchFile (preallocate c size m a b)
on_mount size slot c m (ReadEvent name i offset count) = with_value (file_named m name) NoSuchFile (read size m i offset count)
on_mount size slot c m Ls = list c m
on_mount size slot c m (Stat name) = with_value (file_named m name) NoSuchFile (stat m)
on_mount size slot c m Df = usage m
on_mount size slot c m (MapEvent task home name a n sharing reserving) =
    with_value (file_named m name) NoSuchFile (map_file c m task home a n sharing reserving)
on_mount size slot c m (Anon task home n sharing reserving) = map_anon c m task home n sharing reserving
on_mount size slot c m (Unmap task number a b) = with_value (spot m (is_map task number)) NoSuchMap (unmap m task number a b)
on_mount size slot c m (Fault task home number i intent) = with_value (spot m (is_map task number)) NoSuchMap (fault c size m home i intent)
on_mount size slot c m (Load task home number i offset count) =
    with_value (spot m (is_map task number)) NoSuchMap (load c size m home i offset count)
on_mount size slot c m (Store task home number i offset bytes) =
    with_value (spot m (is_map task number)) NoSuchMap (store c size m home i offset bytes)
on_mount size slot c m (ForkMaps parent child) = fork_maps c m parent child
on_mount size slot c m (ExitMaps task) = exit_maps m task

abbrev pub on_none : (size : ℕ) → Choice → SlotEvent → Plan
on_none size c (MountEvent options) = mount_on c size options
on_none size c other = refuse NoSuchSlot

-- what an event on the slot of this number does
abbrev pub slot_event : (size slot : ℕ) → Choice → Slot → SlotEvent → Plan
slot_event size slot c None e = on_none size c e
slot_event size slot c (Some m) e = on_mount size slot c m e
