-- Ten machines more, each of another kind, that the footprint refuses.
use Rattle.std.proofs.Common.{◌≡◌, ℕ, true, false, None, Some, Ok, List, [], ◌∷◌, ◌++◌, length, take, ap, arith, ◌∙◌, codes, is_some, slice_index_or}
use Rattle.hp_laws.proofs.Variants.{Anon, Cell, Connect, Done, Entered, Exit, Fork, Live, Load, Map, MapNo, Mount, NoReserve, Preallocate, Present, Private, Shared, Store, Truncate, Unmap}
use Rattle.hp_model.proofs.Words.{File, IsPromised, Map as MapOf, Page, State, bytes_answer, copy_of, file_in, is_entered, map_in, map_named, place_at, plain_step, slot_at}
use Rattle.hp_model.proofs.Words.{with_file, with_map, with_place, with_slot, zeros}
use Rattle.hp_laws.specs.Follows.{shown_in}
use Rattle.hp_worked.proofs.WorkedFootprint.{forked, imaged, pages_two, unforked}
use Rattle.hp_worked.proofs.WorkedPromises.{after_all, child_in, into_first, parent_in, shared, spot_or, with_map_of}

-- the first file of slot 0 is another
abbrev with_first : (File → File) → State → State
with_first h s = elim (slot_at s 0) [ None ↦ s | Some m ↦ with_slot s 0 (Some (with_file m 0 (h (file_in m 0)))) ]

abbrev first_cells : State → List (Cell Page)
first_cells s = elim (slot_at s 0) [ None ↦ [] | Some m ↦ (file_in m 0).cells ]

abbrev cell_in_first : State → ℕ → Cell Page
cell_in_first s i = slice_index_or (first_cells s) i Entered

-- a store writes its bytes one byte further
store_shifts : IsPromised shared into_first (Ok Done) (plain_step shared (Store 1 0 1 0 2 (9 ∷ []))).1 → ⊥
store_shifts p =
    (let wrong : 0 ≡ 9 = ap (λ (s : State). slice_index_or (shown_in s 0 0 0) 1 0) p.footprint.0.2.0 ∙ ap (λ (bs : List ℕ). slice_index_or bs 1 0) p.footprint.0.1 in
    absurd (omega (arith, wrong)))

-- a map starts at another index than was asked for
map_starts_elsewhere : IsPromised shared (Map 1 0 (codes "b") 0 1 Shared NoReserve) (Ok (MapNo 4)) (plain_step shared (Map 1 0 (codes "b") 1 1 Shared NoReserve)).1 → ⊥
map_starts_elsewhere p = (let wrong : 1 ≡ 0 = ap (λ (s : State). (spot_or (map_named s 0 1 4)).map.start) p.footprint.0.1.0 in absurd (omega (arith, wrong)))

-- a truncate that lengthens a file enters the new indices
abbrev longer : State
longer = with_first (λ f. record f { cells = take 1 f.cells ++ Entered ∷ Entered ∷ [] }) imaged

truncate_enters : IsPromised imaged (Truncate 0 (codes "a") 3) (Ok Done) longer → ⊥
truncate_enters p = (let wrong : true ≡ false = ap (λ (s : State). is_entered (cell_in_first s 1)) p.footprint.0.0 in cc)

-- a load stamps the copy that it reads anew
abbrev stamp_in : MapOf → ℕ
stamp_in m = elim (copy_of (place_at m 0)) [ None ↦ 99 | Some c ↦ c.stamp ]

abbrev stamped : State
stamped = with_map_of 1 (with_place (child_in forked).map 0 (Live false (Some (record { stamp = 7; page = record { node = 0; bytes = zeros 1024 } })))) forked

load_stamps_anew : IsPromised forked (Load 2 0 1 0 0 1) (Ok (bytes_answer 0 1 (5 ∷ []))) stamped → ⊥
load_stamps_anew p = (let wrong : 7 ≡ 1 = ap (λ (s : State). stamp_in (child_in s).map) p.footprint.0 in absurd (omega (arith, wrong)))

-- a task that connects stands before the others
abbrev one_task : State
one_task = after_all pages_two (Connect 1 0 ∷ [])

abbrev first_task : List (ℕ × ℕ) → ℕ
first_task [] = 99
first_task (e ∷ es) = e.0

connect_goes_first : IsPromised one_task (Connect 2 0) (Ok Done) (record one_task { table = (2, 0) ∷ (1, 0) ∷ [] }) → ⊥
connect_goes_first p = (let wrong : 2 ≡ 1 = ap (λ (s : State). first_task s.table) p.footprint.0 in absurd (omega (arith, wrong)))

-- an exit takes another task with it
abbrev two_tasks : State
two_tasks = after_all one_task (Connect 2 0 ∷ [])

exit_takes_another_task : IsPromised two_tasks (Exit 1) (Ok Done) (record two_tasks { table = [] }) → ⊥
exit_takes_another_task p = (let wrong : 0 ≡ 1 = ap (λ (s : State). length s.table) p.footprint.0.0 in absurd (omega (arith, wrong)))

-- a fork leaves the parent's map without its owner
abbrev disowned : State
disowned = with_map_of 0 (record (parent_in forked).map { owner = false }) forked

fork_disowns : IsPromised unforked (Fork 1 2) (Ok Done) disowned → ⊥
fork_disowns p = (let wrong : false ≡ true = ap (λ (s : State). (parent_in s).map.owner) p.footprint.0.0 in cc)

-- an anonymous map is made on another slot
abbrev two_mounts : State
two_mounts = after_all one_task (Mount 1 (codes "-") ∷ [])

abbrev on_the_second : State
on_the_second = (let t : State = (plain_step two_mounts (Anon 1 1 Private NoReserve)).1 in with_slot (with_slot t 1 (slot_at t 0)) 0 (slot_at t 1))

anon_stands_elsewhere : IsPromised two_mounts (Anon 1 1 Private NoReserve) (Ok (MapNo 1)) on_the_second → ⊥
anon_stands_elsewhere p = (let wrong : false ≡ true = ap (λ (s : State). is_some (map_named s 0 1 1)) p.footprint.0.1.0 in cc)

-- a preallocation moves a page that was there to another node
abbrev node_in : Cell Page → ℕ
node_in (Present page) = page.node
node_in other = 99

abbrev moved : State
moved = with_first (λ f. record f { cells = Present (record { node = 1; bytes = zeros 1024 }) ∷ [] }) imaged

preallocate_moves_a_page : IsPromised imaged (Preallocate 0 (codes "a") 0 1) (Ok Done) moved → ⊥
preallocate_moves_a_page p = (let wrong : 1 ≡ 0 = ap (λ (s : State). node_in (cell_in_first s 0)) p.footprint.0.1.0 in absurd (omega (arith, wrong)))

-- an unmap gives another map of the task its number
abbrev last : State
last = (plain_step shared (Unmap 1 0 3 0 1)).1

abbrev renumbered : State
renumbered = elim (slot_at last 0) [ None ↦ last | Some m ↦ with_slot last 0 (Some (with_file m 1 (with_map (file_in m 1) 0 (record (map_in (file_in m 1) 0) { number = 3 })))) ]

unmap_renumbers : IsPromised shared (Unmap 1 0 3 0 1) (Ok Done) renumbered → ⊥
unmap_renumbers p = (let wrong : false ≡ true = ap (λ (s : State). is_some (map_named s 0 1 2)) p.footprint.0.0 in cc)
