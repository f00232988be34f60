-- Wrong machines that the record refuses: of surplus pages, of copies taken back, of pages that nobody has, and of names and numbers
-- that nobody asked for. A user would be hurt by each.
use Rattle.std.proofs.lemmas.Grind.{common_steps}
use Rattle.std.proofs.Common.{◌≡◌, ⊎_elim, length, ℕ, ◌≤◌, true, false, None, Some, Ok, Err, List, [], ◌∷◌, ap, arith, codes, is_some}
use Rattle.hp_laws.proofs.Variants.{Anon, BadName, Cell, Connect, Create, Done, Entered, Exit, Fault, Fork, Hole, Map, MapNo, MinOverSize, Mount, NoReserve, Nr, Preallocate, Private, Punch, Read}
use Rattle.hp_laws.proofs.Variants.{Reserve, Shared, SlotTaken, Step, Store, TaskExists, Truncate, Unlink, Unmap, Write}
use Rattle.hp_model.proofs.Words.{File, IsPromised, Page, Slot, State, file_in, has_page, is_entered, map_for, map_in, map_named, new_file, plain_step, slot_at, start, with_file, with_new, with_slot}
use Rattle.hp_model.proofs.Words.{cell_at, copy_of, place_at}
use Rattle.hp_worked.proofs.WorkedPromises.{after_all, child_in, forked, mounted, parent_in, robbed}
use Rattle.hp_worked.proofs.WorkedRecord.{refusal_of}
use Rattle.hp_worked.proofs.WorkedWords.{machine}

-- ---- surplus pages

abbrev cells_on : Slot → ℕ
cells_on None = 0
cells_on (Some m) = length (file_in m 0).cells

abbrev files_on : Slot → ℕ
files_on None = 0
files_on (Some m) = length m.files

abbrev first_cell : Slot → Cell Page
first_cell None = Hole
first_cell (Some m) = cell_at (file_in m 0) 0

abbrev over : ℕ → State → State
over n s = record s { overcommit = n }

-- no surplus is allowed, and five pages are mapped of two
abbrev two_pages : State
two_pages = after_all machine (Nr 2 ∷ Connect 1 0 ∷ Create 0 (codes "a") ∷ [])

abbrev five : Step
five = Map 1 0 (codes "a") 0 5 Private Reserve

surplus_past_overcommit : IsPromised two_pages five (Ok (MapNo 1)) (over 0 (plain_step (over 3 two_pages) five).1) → ⊥
surplus_past_overcommit promised = (let wrong : 3 ≤ 0 = promised.surplus (omega arith) in absurd (omega (arith, wrong)))

-- ---- copies

abbrev by_owner : Step
by_owner = Store 1 0 1 0 0 (6 ∷ [])

-- with an overcommit of 1 a page can be had for the owner's store, which takes the child's copy all the same
taken_though_there_is_a_page : IsPromised (over 1 forked) by_owner (Ok Done) (over 1 robbed) → ⊥
taken_though_there_is_a_page promised =
    ⊎_elim (λ took. (let wrong : false ≡ true = ap (λ (s : State). is_some (copy_of (place_at (child_in s).map 0))) took.3.0 in cc))
    (λ back. (let wrong : true ≡ false = back.1 in cc)) promised.footprint.0

-- ---- a fork onto a task that is there, which is refused and ends its maps

fork_ends_a_running_task : IsPromised forked (Fork 1 2) (Err TaskExists) (record (plain_step forked (Exit 2)).1 { table = forked.table }) → ⊥
fork_ends_a_running_task promised = (let wrong : false ≡ true = ap (λ (s : State). is_some (map_named s 0 2 1)) promised.footprint in cc)

-- ---- pages that nobody has

abbrev small : State
small = start (4 ∷ 4 ∷ []) 1024 1

abbrev one_file : State
one_file = after_all small (Nr 2 ∷ Create 0 (codes "a") ∷ Preallocate 0 (codes "a") 0 1 ∷ [])

abbrev with_first : (File → File) → State → State
with_first h s = elim (slot_at s 0) [ None ↦ s | Some m ↦ with_slot s 0 (Some (with_file m 0 (h (file_in m 0)))) ]

unlink_keeps_the_page : IsPromised one_file (Unlink 0 (codes "a")) (Ok Done) (with_first (λ f. record f { name = None }) one_file) → ⊥
unlink_keeps_the_page promised = (let wrong : 1 ≡ 0 = ap (λ (s : State). files_on (slot_at s 0)) promised.footprint.0.0 in absurd (omega (arith, wrong)))

abbrev one_anon : State
one_anon = after_all small (Nr 2 ∷ Connect 1 0 ∷ Anon 1 1 Shared Reserve ∷ Store 1 0 1 0 0 (5 ∷ []) ∷ [])

abbrev unmapped_anon : State
unmapped_anon = with_first (λ f. record f { maps = [] }) one_anon

last_unmap_keeps_the_page : IsPromised one_anon (Unmap 1 0 1 0 1) (Ok Done) unmapped_anon → ⊥
last_unmap_keeps_the_page promised = (let wrong : 1 ≡ 0 = ap (λ (s : State). files_on (slot_at s 0)) promised.footprint.0.0 in absurd (omega (arith, wrong)))

last_exit_keeps_the_page : IsPromised one_anon (Exit 1) (Ok Done) (record unmapped_anon { table = [] }) → ⊥
last_exit_keeps_the_page promised = (let wrong : 1 ≡ 0 = ap (λ (s : State). files_on (slot_at s 0)) promised.footprint.0.0 in absurd (omega (arith, wrong)))

-- ---- accesses that are answered and do nothing

fault_takes_nothing : IsPromised mounted (Fault 1 2 1 0 Write) (Ok Done) mounted → ⊥
fault_takes_nothing promised = (let wrong : false ≡ true = ap (λ (s : State). has_page (first_cell (slot_at s 2))) promised.footprint.0.2.0 in cc)

abbrev untouched : State
untouched = after_all machine (Nr 2 ∷ Connect 1 0 ∷ Create 0 (codes "a") ∷ Map 1 0 (codes "a") 0 2 Private Reserve ∷ [])

owners_fault_takes_nothing : IsPromised untouched (Fault 1 0 1 0 Read) (Ok Done) untouched → ⊥
owners_fault_takes_nothing promised = (let wrong : false ≡ true = ap (λ (s : State). is_some (copy_of (place_at (parent_in s).map 0))) promised.footprint.0.3.0 in cc)

-- ---- a truncate and a punch that leave what they cut

abbrev with_cells : List (Cell Page) → State → State
with_cells cells s = with_first (λ f. record f { cells = cells }) s

truncate_leaves_the_page : IsPromised one_file (Truncate 0 (codes "a") 0) (Ok Done) one_file → ⊥
truncate_leaves_the_page promised = (let wrong : 1 ≡ 0 = ap (λ (s : State). cells_on (slot_at s 0)) promised.footprint.0.0 in absurd (omega (arith, wrong)))

truncate_leaves_the_length : IsPromised one_file (Truncate 0 (codes "a") 0) (Ok Done) (with_cells (Hole ∷ []) one_file) → ⊥
truncate_leaves_the_length promised = (let wrong : 1 ≡ 0 = ap (λ (s : State). cells_on (slot_at s 0)) promised.footprint.0.0 in absurd (omega (arith, wrong)))

punch_leaves_the_page : IsPromised one_file (Punch 0 (codes "a") 0 1) (Ok Done) one_file → ⊥
punch_leaves_the_page promised = (let wrong : true ≡ false = ap (λ (s : State). has_page (first_cell (slot_at s 0))) promised.footprint.0.0 in cc)

punch_leaves_the_entry : IsPromised one_file (Punch 0 (codes "a") 0 1) (Ok Done) (with_cells (Entered ∷ []) one_file) → ⊥
punch_leaves_the_entry promised = (let wrong : true ≡ false = ap (λ (s : State). is_entered (first_cell (slot_at s 0))) promised.footprint.0.0 in cc)

punch_shortens_the_file : IsPromised one_file (Punch 0 (codes "a") 0 1) (Ok Done) (with_cells [] one_file) → ⊥
punch_shortens_the_file promised = (let wrong : 0 ≡ 1 = ap (λ (s : State). cells_on (slot_at s 0)) promised.footprint.0.0 in absurd (omega (arith, wrong)))

truncate_leaves_a_copy : IsPromised forked (Truncate 0 (codes "a") 0) (Ok Done) (with_cells [] forked) → ⊥
truncate_leaves_a_copy promised = (let wrong : true ≡ false = ap (λ (s : State). is_some (copy_of (place_at (child_in s).map 0))) promised.footprint.0.0 in cc)

-- ---- names and numbers that nobody asked for

abbrev created : State
created = (plain_step one_file (Create 0 (codes "b"))).1

create_makes_two : IsPromised one_file (Create 0 (codes "b")) (Ok Done) (plain_step created (Create 0 (codes "c"))).1 → ⊥
create_makes_two promised = (let wrong : 3 ≡ 2 = ap (λ (s : State). files_on (slot_at s 0)) promised.footprint.0 in absurd (omega (arith, wrong)))

abbrev twice : Slot → Slot
twice None = None
twice (Some m) = Some (with_new m (new_file (Some (codes "b"))))

create_makes_it_twice : IsPromised one_file (Create 0 (codes "b")) (Ok Done) (with_slot created 0 (twice (slot_at created 0))) → ⊥
create_makes_it_twice promised = (let wrong : 3 ≡ 2 = ap (λ (s : State). files_on (slot_at s 0)) promised.footprint.0 in absurd (omega (arith, wrong)))

abbrev with_nobodys : State
with_nobodys = elim (slot_at created 0) [ None ↦ created | Some m ↦ with_slot created 0 (Some (with_new m (new_file None))) ]

create_leaves_a_file_to_nobody : IsPromised one_file (Create 0 (codes "b")) (Ok Done) with_nobodys → ⊥
create_leaves_a_file_to_nobody promised = (let wrong : 3 ≡ 2 = ap (λ (s : State). files_on (slot_at s 0)) promised.footprint.0 in absurd (omega (arith, wrong)))

abbrev unforked : State
unforked = after_all machine (Nr 2 ∷ Connect 1 0 ∷ Connect 3 0 ∷ Create 0 (codes "a") ∷ Map 1 0 (codes "a") 0 2 Private Reserve ∷ [])

-- the third task gets a map too
abbrev to_a_third : File → File
to_a_third f = record f { maps = map_in f 0 ∷ map_in f 1 ∷ map_for 3 (map_in f 0) ∷ [] }

fork_maps_a_third_task : IsPromised unforked (Fork 1 2) (Ok Done) (with_first to_a_third (plain_step unforked (Fork 1 2)).1) → ⊥
fork_maps_a_third_task promised = (let wrong : true ≡ false = ap (λ (s : State). is_some (map_named s 0 3 1)) promised.footprint.0.0 in cc)

abbrev one_map : Step
one_map = Map 1 0 (codes "a") 0 1 Shared NoReserve

map_gives_another_number_too : IsPromised two_pages one_map (Ok (MapNo 1)) (after_all two_pages (one_map ∷ one_map ∷ [])) → ⊥
map_gives_another_number_too promised = (let wrong : true ≡ false = ap (λ (s : State). is_some (map_named s 0 1 2)) promised.footprint.0.1.0 in cc)

-- ---- mounts and forks that are refused for no reason, or done against one

mount_is_refused : IsPromised machine (Mount 2 (codes "size=3K")) (Err BadName) machine → ⊥
mount_is_refused promised = (let wrong : false ≡ true = promised.tests in cc)

mounted_twice : IsPromised mounted (Mount 2 (codes "size=3K")) (Err BadName) mounted → ⊥
mounted_twice promised = (let wrong : BadName ≡ SlotTaken = ap refusal_of promised.tests in cc)

minimum_over_its_size : IsPromised machine (Mount 2 (codes "size=1K,min_size=2K")) (Err BadName) machine → ⊥
minimum_over_its_size promised = (let wrong : BadName ≡ MinOverSize = ap refusal_of promised.tests in cc)

fork_is_refused : IsPromised unforked (Fork 1 2) (Err BadName) unforked → ⊥
fork_is_refused promised = grind (arith, common_steps)

fork_onto_a_task_is_done : IsPromised unforked (Fork 1 3) (Ok Done) unforked → ⊥
fork_onto_a_task_is_done promised = (let wrong : Ok Done ≡ Err TaskExists = promised.tests in cc)
