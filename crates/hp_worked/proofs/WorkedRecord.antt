-- For the fields of the promises a wrong machine that the record refuses: a reply, or a state after the step.
use Rattle.std.proofs.Common.{◌≡◌, ℕ, ◌≤◌, Bool, true, false, None, Option, Some, Ok, Err, [], ◌∷◌, length, replicate, refl, ap, arith, count_by, codes, is_some}
use Rattle.hp_laws.proofs.Variants.{Busy, Connect, Create, Df, Done, Entered, Exit, Fault, Fork, Gone, Hole, Live, Load, Map, MapNo, MinOverSize, Mount, MountFull, NoPages, NoReserve}
use Rattle.hp_laws.proofs.Variants.{NoSuchMap, Nr, Number, OutOfMemory, OutOfRange, Private, Punch, Read, Refusal, Remount, Reserve, Shared, SlotTaken, Stat, StatAnswer, Step, Store, TakenByOwner}
use Rattle.hp_laws.proofs.Variants.{Umount, Unlink, Unmap}
use Rattle.hp_model.proofs.Words.{File, IsPromised, IsPromisedStep, Reply, Slot, Spot, State, copy_of, file_in, is_entered, is_live, is_unconsumed, place_at, plain_step, slot_at, with_file, home_of}
use Rattle.hp_model.proofs.Words.{map_named, named_on}
use Rattle.hp_model.proofs.Words.{with_place, with_slot}
use Rattle.hp_worked.proofs.WorkedPromises.{after_all, child_in, forked, into_first, mounted, parent_in, robbed, shared, spot_or, unmapped_first, with_map_of, without_pages}
use Rattle.hp_worked.proofs.WorkedWords.{machine}

abbrev pub refusal_of : Reply → Refusal
refusal_of (Ok a) = Busy
refusal_of (Err r) = r

-- a store at a reserved index is refused for want of a page
wants_a_page : IsPromised shared into_first (Err NoPages) shared → ⊥
wants_a_page promised = (let wrong : true ≡ false = promised.reserved refl in cc)

-- promised pages are gone from the pool
pages_are_gone : IsPromised mounted (Df 2) (Ok Done) without_pages → ⊥
pages_are_gone promised = (let wrong : 3 ≤ 0 = promised.counts.covered in absurd (omega (arith, wrong)))

-- a mount of at most 3 pages with 4 reserved ones
abbrev fuller : Slot → Slot
fuller None = None
fuller (Some m) = Some (with_file m 0 (record (file_in m 0) { cells = replicate 4 Entered }))

abbrev past_the_limit : State
past_the_limit = with_slot mounted 2 (fuller (slot_at mounted 2))

limit_is_passed : IsPromised mounted (Create 2 (codes "b")) (Ok Done) past_the_limit → ⊥
limit_is_passed promised = (let wrong : true ≡ false = promised.limits 2 (omega arith) (omega arith) in cc)

-- an unmap is refused memory
unmap_takes_memory : IsPromisedStep shared (Unmap 1 0 1 0 1) (Err OutOfMemory) shared → ⊥
unmap_takes_memory promised = promised.2 refl refl

-- a map that reserves enters nothing
abbrev reserving : Step
reserving = Map 1 0 (codes "b") 0 1 Shared Reserve

map_enters_nothing : IsPromised shared reserving (Ok (MapNo 4)) (plain_step shared (Map 1 0 (codes "b") 0 1 Shared NoReserve)).1 → ⊥
map_enters_nothing promised = (let wrong : 0 ≡ 1 = ap (λ (s : State). count_by is_entered (spot_or (map_named s 0 1 4)).file.cells) promised.footprint.0.1.0 in absurd (omega (arith, wrong)))

-- a map makes its file longer than it needs
longer_than_needed : IsPromised shared (Map 1 0 (codes "b") 0 1 Shared NoReserve) (Ok (MapNo 4)) (plain_step shared (Map 1 0 (codes "b") 0 2 Shared NoReserve)).1 → ⊥
longer_than_needed promised = (let wrong : 2 ≡ 1 = ap (λ (s : State). length (spot_or (map_named s 0 1 4)).file.cells) promised.footprint.0.1.0 in absurd (omega (arith, wrong)))

-- ---- tests: a wrong refusal, and one without a reason

-- a load through a marked map is refused for another reason
not_told_that_it_was_taken : IsPromised robbed (Load 2 0 1 1 0 1) (Err NoPages) robbed → ⊥
not_told_that_it_was_taken promised = (let wrong : NoPages ≡ TakenByOwner = ap refusal_of promised.tests in cc)

-- an index past the map comes before the mark
taken_before_the_range : IsPromised robbed (Load 2 0 1 7 0 1) (Err TakenByOwner) robbed → ⊥
taken_before_the_range promised = (let wrong : TakenByOwner ≡ OutOfRange = ap refusal_of promised.tests in cc)

-- a machine that refuses everything
refuses_all : IsPromised shared (Unmap 1 0 1 0 1) (Err Busy) shared → ⊥
refuses_all promised = (let wrong : false ≡ true = promised.tests in cc)

-- and one that answers what it should refuse
answers_without_a_map : IsPromised shared (Unmap 1 0 9 0 1) (Ok Done) shared → ⊥
answers_without_a_map promised = (let wrong : Ok Done ≡ Err NoSuchMap = promised.tests in cc)

-- ---- refusals for want of pages where there are pages, or none is asked for

-- of two pages one is committed
map_finds_no_page : IsPromised shared reserving (Err NoPages) shared → ⊥
map_finds_no_page promised = (let wrong : true ≡ false = promised.short.1 in cc)

-- the whole range has entries, and the mount is at its limit
map_is_past_the_limit : IsPromised mounted (Map 1 2 (codes "a") 0 3 Shared Reserve) (Err MountFull) mounted → ⊥
map_is_past_the_limit promised = (let wrong : false ≡ true = promised.short in cc)

-- a mount without a minimum
mount_finds_no_page : IsPromised shared (Mount 2 (codes "size=3K")) (Err NoPages) shared → ⊥
mount_finds_no_page promised = (let wrong : true ≡ false = promised.short in cc)

-- all pages are committed, and the child reads the copy that it has
load_finds_no_page : IsPromised forked (Load 2 0 1 0 0 1) (Err NoPages) forked → ⊥
load_finds_no_page promised = (let wrong : true ≡ false = promised.short.1 in cc)

fork_finds_no_page : IsPromised forked (Fork 1 3) (Err NoPages) forked → ⊥
fork_finds_no_page promised = (let wrong : true ≡ false = promised.short in cc)

-- ---- tasks, nr and overcommit

abbrev home_or : Option ℕ → ℕ
home_or None = 99
home_or (Some home) = home

-- a task connects at another node
connects_elsewhere : IsPromised machine (Connect 1 0) (Ok Done) (record machine { table = (1, 1) ∷ [] }) → ⊥
connects_elsewhere promised = (let wrong : 1 ≡ 0 = ap (λ (s : State). home_or (home_of s.table 1)) promised.footprint.0 in absurd (omega (arith, wrong)))

-- a create forgets a task
forgets_a_task : IsPromised mounted (Create 2 (codes "b")) (Ok Done) (record (plain_step mounted (Create 2 (codes "b"))).1 { table = [] }) → ⊥
forgets_a_task promised = (let wrong : 0 ≡ 1 = ap (λ (s : State). length s.table) promised.footprint.0 in absurd (omega (arith, wrong)))

-- a child is of another node than its parent
child_of_another_node : IsPromised mounted (Fork 1 2) (Ok Done) (record (plain_step mounted (Fork 1 2)).1 { table = (1, 0) ∷ (2, 1) ∷ [] }) → ⊥
child_of_another_node promised = (let wrong : 1 ≡ 0 = ap (λ (s : State). home_or (home_of s.table 2)) promised.footprint.0.0 in absurd (omega (arith, wrong)))

-- nr answers what it did not leave, and a store changes overcommit
abbrev number_in : Reply → ℕ
number_in (Ok (Number n)) = n
number_in other = 99

answers_another_nr : IsPromised mounted (Nr 4) (Ok (Number 3)) mounted → ⊥
answers_another_nr promised = (let wrong : 3 ≡ 4 = ap (λ a. number_in (Ok a)) promised.answers in absurd (omega (arith, wrong)))

leaves_nr : IsPromised mounted (Nr 1) (Ok (Number 4)) mounted → ⊥
leaves_nr promised = (let wrong : 4 ≡ 1 = ap (λ (s : State). s.nr) promised.footprint.0.0 in absurd (omega (arith, wrong)))

raises_overcommit : IsPromised shared into_first (Ok Done) (record (plain_step shared into_first).1 { overcommit = 7 }) → ⊥
raises_overcommit promised = (let wrong : 7 ≡ 0 = ap (λ (s : State). s.overcommit) promised.footprint.0.2.0 in absurd (omega (arith, wrong)))

-- ---- a stat that drops empty entries

abbrev bare : Slot → Slot
bare None = None
bare (Some m) = Some (with_file m 0 (record (file_in m 0) { cells = [] }))

abbrev cells_on : Slot → ℕ
cells_on None = 0
cells_on (Some m) = length (file_in m 0).cells

stat_drops_entries : IsPromised mounted (Stat 2 (codes "a")) (Ok (StatAnswer 3 0 3 1)) (with_slot mounted 2 (bare (slot_at mounted 2))) → ⊥
stat_drops_entries promised = (let wrong : 0 ≡ 3 = ap (λ (s : State). cells_on (slot_at s 2)) promised.footprint.0 in absurd (omega (arith, wrong)))

-- ---- steps that take entries on a slot that they are not on

connect_drops_entries : IsPromised mounted (Connect 3 0) (Ok Done) (with_slot (plain_step mounted (Connect 3 0)).1 2 (bare (slot_at mounted 2))) → ⊥
connect_drops_entries promised = (let wrong : 0 ≡ 3 = ap (λ (s : State). cells_on (slot_at s 2)) promised.footprint.0 in absurd (omega (arith, wrong)))

create_drops_entries_elsewhere : IsPromised mounted (Create 0 (codes "b")) (Ok Done) (with_slot (plain_step mounted (Create 0 (codes "b"))).1 2 (bare (slot_at mounted 2))) → ⊥
create_drops_entries_elsewhere promised = (let wrong : 0 ≡ 3 = ap (λ (s : State). cells_on (slot_at s 2)) promised.footprint.0 in absurd (omega (arith, wrong)))

-- ---- an exit that keeps the maps of its task, an umount that keeps the mount, an unlink that keeps the name, and an unmap of all that keeps
-- the number

exit_keeps_maps : IsPromised shared (Exit 1) (Ok Done) (record shared { table = [] }) → ⊥
exit_keeps_maps promised = (let wrong : true ≡ false = ap (λ (s : State). is_some (map_named s 0 1 1)) promised.footprint.0.0 in cc)

umount_keeps_the_mount : IsPromised mounted (Umount 2) (Ok Done) mounted → ⊥
umount_keeps_the_mount promised = (let wrong : true ≡ false = ap (λ (s : State). is_some (slot_at s 2)) promised.footprint.0.0 in cc)

unlink_keeps_the_name : IsPromised shared (Unlink 0 (codes "a")) (Ok Done) shared → ⊥
unlink_keeps_the_name promised = (let wrong : true ≡ false = ap (λ (s : State). is_some (named_on (slot_at s 0) (codes "a"))) promised.footprint.0.0 in cc)

unmap_keeps_the_number : IsPromised shared (Unmap 1 0 1 0 1) (Ok Done) shared → ⊥
unmap_keeps_the_number promised = (let wrong : true ≡ false = ap (λ (s : State). is_some (map_named s 0 1 1)) promised.footprint.0.0 in cc)

-- ---- a mount with other limits than its options mean

abbrev max_of : Slot → Option ℕ
max_of None = None
max_of (Some m) = m.limits.max

mounted_without_its_limit : IsPromised shared (Mount 2 (codes "size=3K")) (Ok Done) (plain_step shared (Mount 2 (codes "-"))).1 → ⊥
mounted_without_its_limit promised = (let wrong : false ≡ true = ap (λ (s : State). is_some (max_of (slot_at s 2))) promised.footprint.0.1.0 in cc)

-- ---- a remount that leaves the old limit, drops a file, loses reservations, changes another mount, and raises a minimum that nothing backs

abbrev smaller : Step
smaller = Remount 2 (codes "size=2K,min_size=2K")

remounted_with_its_old_limit : IsPromised mounted smaller (Ok Done) mounted → ⊥
remounted_with_its_old_limit promised = (let wrong : 3 ≡ 2 = ap (λ (s : State). home_or (max_of (slot_at s 2))) promised.footprint.0.0 in absurd (omega (arith, wrong)))

abbrev remounted_to : (Slot → Slot) → State
remounted_to h = (let t : State = (plain_step mounted smaller).1 in with_slot t 2 (h (slot_at t 2)))

abbrev without_files : Slot → Slot
without_files None = None
without_files (Some m) = Some (record m { files = [] })

abbrev files_on : Slot → ℕ
files_on None = 0
files_on (Some m) = length m.files

remount_drops_a_file : IsPromised mounted smaller (Ok Done) (remounted_to without_files) → ⊥
remount_drops_a_file promised = (let wrong : 0 ≡ 1 = ap (λ (s : State). files_on (slot_at s 2)) promised.footprint.0.0 in absurd (omega (arith, wrong)))

remount_loses_reservations : IsPromised mounted smaller (Ok Done) (remounted_to bare) → ⊥
remount_loses_reservations promised = (let wrong : 0 ≡ 3 = ap (λ (s : State). cells_on (slot_at s 2)) promised.footprint.0.0 in absurd (omega (arith, wrong)))

abbrev with_limit : (max min : ℕ) → Slot → Slot
with_limit max min None = None
with_limit max min (Some m) = Some (record m { limits = record { max = Some max; min = min; inodes = None } })

abbrev another_limited : State
another_limited = (let t : State = (plain_step mounted smaller).1 in with_slot t 0 (with_limit 1 0 (slot_at t 0)))

remount_changes_another_mount : IsPromised mounted smaller (Ok Done) another_limited → ⊥
remount_changes_another_mount promised = (let wrong : true ≡ false = ap (λ (s : State). is_some (max_of (slot_at s 0))) promised.footprint.0.0 in cc)

-- and a step that is no remount has set limits
create_changes_limits : IsPromised mounted (Create 2 (codes "b")) (Ok Done) (with_slot mounted 2 (with_limit 9 2 (slot_at mounted 2))) → ⊥
create_changes_limits promised = (let wrong : 9 ≡ 3 = ap (λ (s : State). home_or (max_of (slot_at s 2))) promised.footprint.0 in absurd (omega (arith, wrong)))

-- of 4 pages 5 are promised
abbrev past_the_pool : Step
past_the_pool = Remount 2 (codes "size=9K,min_size=5K")

minimum_raised_without_a_grant : IsPromised mounted past_the_pool (Ok Done) (with_slot mounted 2 (with_limit 9 5 (slot_at mounted 2))) → ⊥
minimum_raised_without_a_grant promised = (let wrong : 5 ≤ 4 = promised.minimums 2 in absurd (omega (arith, wrong)))

-- ---- a remount below what is used that is refused, one of slot 0, and one that is refused memory

remount_below_usage_finds_no_page : IsPromised mounted smaller (Err NoPages) mounted → ⊥
remount_below_usage_finds_no_page promised = (let wrong : true ≡ false = promised.short in cc)

remount_below_usage_is_full : IsPromised mounted smaller (Err MountFull) mounted → ⊥
remount_below_usage_is_full promised = (let wrong : true ≡ false = promised.short in cc)

remount_below_usage_is_busy : IsPromised mounted smaller (Err Busy) mounted → ⊥
remount_below_usage_is_busy promised = (let wrong : false ≡ true = promised.tests in cc)

first_slot_is_remounted : IsPromised mounted (Remount 0 (codes "-")) (Ok Done) mounted → ⊥
first_slot_is_remounted promised = (let wrong : Ok Done ≡ Err SlotTaken = promised.tests in cc)

remount_with_a_minimum_over_its_size : IsPromised mounted (Remount 2 (codes "size=1K,min_size=2K")) (Ok Done) mounted → ⊥
remount_with_a_minimum_over_its_size promised = (let wrong : Ok Done ≡ Err MinOverSize = promised.tests in cc)

remount_takes_memory : IsPromisedStep mounted smaller (Err OutOfMemory) mounted → ⊥
remount_takes_memory promised = promised.2 refl refl

-- ---- an unmap that spends an index past its range, that leaves its range mapped, and that takes an index of another task's map

abbrev after_unmap : State
after_unmap = (plain_step forked unmapped_first).1

abbrev reserve_at : Option Spot → ℕ → Bool
reserve_at o i = is_unconsumed (place_at (spot_or o).map i)

abbrev live_at : Option Spot → ℕ → Bool
live_at o i = is_live (place_at (spot_or o).map i)

abbrev one_spent : State
one_spent = with_map_of 0 (with_place (parent_in after_unmap).map 1 (Live true None)) after_unmap

unmap_spends_another_index : IsPromised forked unmapped_first (Ok Done) one_spent → ⊥
unmap_spends_another_index promised = (let wrong : false ≡ true = ap (λ (s : State). reserve_at (map_named s 0 1 1) 1) promised.footprint.0.0 in cc)

range_stays_mapped : IsPromised forked unmapped_first (Ok Done) forked → ⊥
range_stays_mapped promised = (let wrong : true ≡ false = ap (λ (s : State). live_at (map_named s 0 1 1) 0) promised.footprint.0.0 in cc)

abbrev child_cut : State
child_cut = with_map_of 1 (with_place (child_in after_unmap).map 1 Gone) after_unmap

unmap_takes_from_another_map : IsPromised forked unmapped_first (Ok Done) child_cut → ⊥
unmap_takes_from_another_map promised = (let wrong : false ≡ true = ap (λ (s : State). live_at (map_named s 0 2 1) 1) promised.footprint.0.0 in cc)

unmap_marks_another_map : IsPromised forked unmapped_first (Ok Done) (with_map_of 1 (record (child_in after_unmap).map { unmapped = true }) after_unmap) → ⊥
unmap_marks_another_map promised = (let wrong : true ≡ false = ap (λ (s : State). (child_in s).map.unmapped) promised.footprint.0.0 in cc)

-- ---- a fault that spends an index of another task's map, or marks its own map

abbrev child_reads : Step
child_reads = Fault 2 0 1 0 Read

abbrev after_read : State
after_read = (plain_step forked child_reads).1

abbrev read_spends : State
read_spends = with_map_of 0 (with_place (parent_in after_read).map 1 (Live true None)) after_read

fault_spends_another_index : IsPromised forked child_reads (Ok Done) read_spends → ⊥
fault_spends_another_index promised = (let wrong : false ≡ true = ap (λ (s : State). reserve_at (map_named s 0 1 1) 1) promised.footprint.0 in cc)

abbrev read_marks : State
read_marks = with_map_of 1 (record (child_in after_read).map { unmapped = true }) after_read

fault_marks_its_map : IsPromised forked child_reads (Ok Done) read_marks → ⊥
fault_marks_its_map promised = (let wrong : true ≡ false = ap (λ (s : State). (child_in s).map.unmapped) promised.footprint.0 in cc)

-- ---- an owner's store that leaves its index reserved

abbrev reserved : State
reserved = after_all machine (Nr 2 ∷ Connect 1 0 ∷ Create 0 (codes "a") ∷ Map 1 0 (codes "a") 0 2 Private Reserve ∷ [])

abbrev first_store : Step
first_store = Store 1 0 1 0 0 (5 ∷ [])

abbrev unspent_after : State
unspent_after =
    let t : State = (plain_step reserved first_store).1 in
    with_map_of 0 (with_place (parent_in t).map 0 (Live false (copy_of (place_at (parent_in t).map 0)))) t

store_spends_nothing : IsPromised reserved first_store (Ok Done) unspent_after → ⊥
store_spends_nothing promised = (let wrong : true ≡ false = ap (λ (s : State). reserve_at (map_named s 0 1 1) 0) promised.footprint.0.3.0 in cc)

-- ---- a create, a map and a punch that drop entries of a file

abbrev created_bare : State
created_bare = (let t : State = (plain_step mounted (Create 2 (codes "b"))).1 in with_slot t 2 (bare (slot_at t 2)))

create_drops_entries : IsPromised mounted (Create 2 (codes "b")) (Ok Done) created_bare → ⊥
create_drops_entries promised = (let wrong : 0 ≡ 3 = ap (λ (s : State). cells_on (slot_at s 2)) promised.footprint.0 in absurd (omega (arith, wrong)))

abbrev punched_bare : State
punched_bare = (let t : State = (plain_step mounted (Punch 2 (codes "a") 0 1)).1 in with_slot t 2 (bare (slot_at t 2)))

punch_drops_entries : IsPromised mounted (Punch 2 (codes "a") 0 1) (Ok Done) punched_bare → ⊥
punch_drops_entries promised = (let wrong : 0 ≡ 3 = ap (λ (s : State). cells_on (slot_at s 2)) promised.footprint.0.0 in absurd (omega (arith, wrong)))

-- ---- a fork that gives the child a map without its copies, one that owns, a map more, and a map of another file

abbrev unforked : State
unforked = after_all machine (Nr 2 ∷ Connect 1 0 ∷ Create 0 (codes "a") ∷ Create 0 (codes "b") ∷ Map 1 0 (codes "a") 0 2 Private Reserve ∷ Store 1 0 1 0 0 (5 ∷ []) ∷ [])

abbrev after_fork : State
after_fork = (plain_step unforked (Fork 1 2)).1

abbrev fork_loses : State
fork_loses = with_map_of 1 (with_place (child_in after_fork).map 0 (Live false None)) after_fork

abbrev copy_at : Option Spot → ℕ → Bool
copy_at o i = is_some (copy_of (place_at (spot_or o).map i))

child_has_no_copy : IsPromised unforked (Fork 1 2) (Ok Done) fork_loses → ⊥
child_has_no_copy promised = (let wrong : false ≡ true = ap (λ (s : State). copy_at (map_named s 0 2 1) 0) promised.footprint.0.0 in cc)

child_owns : IsPromised unforked (Fork 1 2) (Ok Done) (with_map_of 1 (record (child_in after_fork).map { owner = true }) after_fork) → ⊥
child_owns promised = (let wrong : true ≡ false = ap (λ (s : State). (child_in s).map.owner) promised.footprint.0.0 in cc)

abbrev fork_makes_one_more : State
fork_makes_one_more = (plain_step after_fork (Map 2 0 (codes "a") 0 1 Private NoReserve)).1

child_has_a_map_more : IsPromised unforked (Fork 1 2) (Ok Done) fork_makes_one_more → ⊥
child_has_a_map_more promised = (let wrong : true ≡ false = ap (λ (s : State). is_some (map_named s 0 2 2)) promised.footprint.0.0 in cc)

-- the child's map stands on the second file
abbrev elsewhere : Slot → Slot
elsewhere None = None
elsewhere (Some m) =
    Some (with_file (with_file m 0 (record (file_in m 0) { maps = (parent_in after_fork).map ∷ [] })) 1 (record (file_in m 1) { maps = (child_in after_fork).map ∷ [] }))

child_maps_another_file : IsPromised unforked (Fork 1 2) (Ok Done) (with_slot after_fork 0 (elsewhere (slot_at after_fork 0))) → ⊥
child_maps_another_file promised = (let wrong : 1 ≡ 0 = ap (λ (s : State). (child_in s).file_no) promised.footprint.0.0 in absurd (omega (arith, wrong)))

-- ---- an exit of the child that spends an index of its parent

abbrev after_exit : State
after_exit = (plain_step forked (Exit 2)).1

abbrev exit_spends : State
exit_spends = with_map_of 0 (with_place (parent_in after_exit).map 1 (Live true None)) after_exit

child_leaves_a_spent_index : IsPromised forked (Exit 2) (Ok Done) exit_spends → ⊥
child_leaves_a_spent_index promised = (let wrong : false ≡ true = ap (λ (s : State). reserve_at (map_named s 0 1 1) 1) promised.footprint.0.0 in cc)

-- ---- an unmap and an exit of a file's last map that drop its entries, and a fork that drops those of a file without maps

abbrev unentered : State → State
unentered t = elim (slot_at t 2) [ None ↦ t | Some m ↦ with_slot t 2 (Some (with_file m 0 (record (file_in m 0) { cells = replicate 3 Hole }))) ]

abbrev entries_of : Option (ℕ × File) → ℕ
entries_of None = 99
entries_of (Some f) = count_by is_entered f.1.cells

abbrev unmapped_all : Step
unmapped_all = Unmap 1 2 1 0 3

unmap_drops_entries : IsPromised mounted unmapped_all (Ok Done) (unentered (plain_step mounted unmapped_all).1) → ⊥
unmap_drops_entries promised = (let wrong : 0 ≡ 3 = ap (λ (s : State). entries_of (named_on (slot_at s 2) (codes "a"))) promised.footprint.0.0 in absurd (omega (arith, wrong)))

exit_drops_entries : IsPromised mounted (Exit 1) (Ok Done) (unentered (plain_step mounted (Exit 1)).1) → ⊥
exit_drops_entries promised = (let wrong : 0 ≡ 3 = ap (λ (s : State). entries_of (named_on (slot_at s 2) (codes "a"))) promised.footprint.0.0 in absurd (omega (arith, wrong)))

abbrev without_maps : State
without_maps = (plain_step mounted unmapped_all).1

fork_drops_entries : IsPromised without_maps (Fork 1 2) (Ok Done) (unentered (plain_step without_maps (Fork 1 2)).1) → ⊥
fork_drops_entries promised = (let wrong : 0 ≡ 3 = ap (λ (s : State). entries_of (named_on (slot_at s 2) (codes "a"))) promised.footprint.0.0 in absurd (omega (arith, wrong)))
