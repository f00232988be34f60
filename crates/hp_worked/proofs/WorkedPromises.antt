-- What is promised of some steps, by computation: the tests and the bytes that the promises speak of.
use Rattle.std.proofs.lemmas.Grind.{common_steps}
use Rattle.std.proofs.Common.{◌≡◌, subst, ℕ, ◌+◌, ◌==◌, true, false, None, Option, Some, Ok, Err, List, [], ◌∷◌, length, take, map, nat_le, refl, sym, ap, arith, option_map, ◌++◌, slice_index_or}
use Rattle.std.proofs.Common.{codes, is_some}
use Rattle.hp_laws.proofs.Variants.{Anon, Answer, Attach, BadName, Connect, Create, Df, Done, Fork, Gone, Home, Limits, Live, Load, Ls, Map, MapNo, Meminfo, Mount, Names, NoPages, NoReserve, Nr}
use Rattle.hp_laws.proofs.Variants.{Numbers, Private, Punch, Reserve, Shared, Stat, StatAnswer, Step, Store, TakenByOwner, Truncate, Unmap, Usage}
use Rattle.hp_model.proofs.Words.{File, Map as MapOf, Node, Slot, Spot, State, committed_pages, AnswersWhatWas, is_cut_off}
use Rattle.hp_model.proofs.Words.{copy_of, counts_in, file_in, free_of, is_backed_step, is_shared, least_of, map_in, map_named, named_on, new_file, no_map}
use Rattle.hp_model.proofs.Words.{place_at, plain_step, pool_of, slot_at, total_of, value, with_file, with_map, with_place, with_slot}
use Rattle.hp_model.specs.machine.Footprint.{Changes, ChangesRefused}
use Rattle.hp_laws.specs.Follows.{LosesTo, SameFiles, SameLimits, Shape, StillMapped, StillNamed, is_ended_number, map_at, seen_in, seen_over, shown_in, stored_over}
use Rattle.hp_worked.proofs.WorkedWords.{machine}

abbrev pub after_all : State → List Step → State
after_all s [] = s
after_all s (step ∷ steps) = after_all (plain_step s step).1 steps

abbrev pub spot_or : Option Spot → Spot
spot_or None = record { file_no = 99; file = new_file None; map_no = 99; map = no_map }
spot_or (Some s) = s

abbrev first_bytes : State → (file map index : ℕ) → List ℕ
first_bytes s file map index = take 2 (seen_in s 0 file map index)

-- ---- a shared map: two files, one stored into

abbrev pub shared : State
shared =
    after_all machine
    (Nr 2 ∷ Connect 1 0 ∷ Create 0 (codes "a") ∷ Create 0 (codes "b") ∷ Map 1 0 (codes "a") 0 1 Shared Reserve
    ∷ Map 1 0 (codes "b") 0 1 Shared NoReserve ∷ Map 1 0 (codes "b") 0 1 Shared NoReserve ∷ [])

abbrev pub into_first : Step
into_first = Store 1 0 1 0 1 (9 ∷ [])

reserved_there : is_backed_step shared into_first ≡ true
reserved_there = refl

not_reserved_there : is_backed_step shared (Store 1 0 2 0 1 (9 ∷ [])) ≡ false
not_reserved_there = refl

stored_in_first : take 2 (stored_over shared into_first (Ok Done) 0 0 0 (shown_in shared 0 0 0)) ≡ 0 ∷ 9 ∷ []
stored_in_first = refl

not_in_second : take 2 (stored_over shared into_first (Ok Done) 0 1 0 (shown_in shared 0 1 0)) ≡ 0 ∷ 0 ∷ []
not_in_second = refl

shown_after : take 2 (shown_in (plain_step shared into_first).1 0 0 0) ≡ 0 ∷ 9 ∷ []
shown_after = refl

-- both maps of the second file are reached by a store through one of them
both_reached : take 2 (seen_over shared (Store 1 0 3 0 0 (7 ∷ [])) (Ok Done) 0 1 0 0 (seen_in shared 0 1 0 0)) ≡ 7 ∷ 0 ∷ []
both_reached = refl

-- ---- a private map and its child: the owner takes the copy back

abbrev pub forked : State
forked = after_all machine (Nr 2 ∷ Connect 1 0 ∷ Create 0 (codes "a") ∷ Map 1 0 (codes "a") 0 2 Private Reserve ∷ Store 1 0 1 0 0 (5 ∷ []) ∷ Fork 1 2 ∷ [])

abbrev by_owner : Step
by_owner = Store 1 0 1 0 0 (6 ∷ [])

abbrev pub robbed : State
robbed = (plain_step forked by_owner).1

owner_is_backed : is_backed_step forked by_owner ≡ true
owner_is_backed = refl

child_is_not_backed : is_backed_step forked (Store 2 0 1 0 0 (6 ∷ [])) ≡ false
child_is_not_backed = refl

child_wants_a_page : (plain_step forked (Store 2 0 1 0 0 (6 ∷ []))).0 ≡ Err NoPages
child_wants_a_page = refl

child_shows_the_copy : first_bytes forked 0 1 0 ≡ 5 ∷ 0 ∷ []
child_shows_the_copy = refl

owner_shows_its_bytes : first_bytes robbed 0 0 0 ≡ 6 ∷ 0 ∷ []
owner_shows_its_bytes = refl

only_the_owners_map : take 2 (seen_over forked by_owner (Ok Done) 0 0 1 0 (seen_in forked 0 0 1 0)) ≡ 5 ∷ 0 ∷ []
only_the_owners_map = refl

child_is_marked : (map_at robbed 0 0 1).unmapped ≡ true
child_is_marked = refl

child_is_cut_off : is_cut_off (map_named robbed 0 2 1) 1 ≡ true
child_is_cut_off = refl

child_is_refused : (plain_step robbed (Load 2 0 1 1 0 1)).0 ≡ Err TakenByOwner
child_is_refused = refl

-- ---- what the promises refuse: a pool without the pages, wrong numbers, a refusal that leaves something, other limits

abbrev pub mounted : State
mounted = after_all machine (Nr 4 ∷ Mount 2 (codes "size=3K,min_size=2K") ∷ Connect 1 0 ∷ Create 2 (codes "a") ∷ Map 1 2 (codes "a") 0 3 Shared Reserve ∷ [])

abbrev pub without_pages : State
without_pages = record mounted { nodes = map (λ (n : Node). record n { total = 0; surp = 0 }) mounted.nodes }

minimum_there : nat_le (least_of (slot_at mounted 2) + committed_pages (with_slot mounted 2 None)) (total_of (pool_of mounted).nodes.rows) ≡ true
minimum_there = refl

minimum_not_there : nat_le (least_of (slot_at without_pages 2) + committed_pages (with_slot without_pages 2 None)) (total_of (pool_of without_pages).nodes.rows) ≡ false
minimum_not_there = refl

promised_pages_are_free : nat_le (counts_in mounted).rsvd (free_of (pool_of mounted).nodes.rows) ≡ true
promised_pages_are_free = refl

promised_pages_are_not_there : nat_le (counts_in without_pages).rsvd (free_of (pool_of without_pages).nodes.rows) ≡ false
promised_pages_are_not_there = refl

abbrev rsvd_in : Answer → ℕ
rsvd_in (Numbers counts) = counts.rsvd
rsvd_in other = 99

abbrev used_in : Answer → ℕ
used_in (Usage max min used inodes files) = used
used_in other = 99

abbrev files_on : Slot → ℕ
files_on None = 0
files_on (Some m) = length m.files

rsvd_told_as_none : AnswersWhatWas mounted Meminfo (Ok (Numbers (record (counts_in mounted) { rsvd = 0 }))) mounted → ⊥
rsvd_told_as_none e = (let wrong : false ≡ true = subst (λ a. (rsvd_in a == 0) ≡ true) e refl in cc)

usage_told_as_less : AnswersWhatWas mounted (Df 2) (Ok (Usage (Some 3) 2 2 None 1)) mounted → ⊥
usage_told_as_less e = (let wrong : false ≡ true = subst (λ a. (used_in a == 2) ≡ true) e refl in cc)

usage_of_no_mount : AnswersWhatWas mounted (Df 3) (Ok (Usage None 0 0 None 0)) mounted → ⊥
usage_of_no_mount e = e

abbrev names_in : Answer → ℕ
names_in (Names names) = length names
names_in other = 99

abbrev pages_in : Answer → ℕ
pages_in (StatAnswer len pages entries maps) = pages
pages_in other = 99

abbrev home_in : Answer → ℕ
home_in (Home home) = home
home_in other = 99

names_told_without_one : AnswersWhatWas mounted (Ls 2) (Ok (Names [])) mounted → ⊥
names_told_without_one e = (let wrong : false ≡ true = subst (λ a. (names_in a == 1) ≡ true) (sym e) refl in cc)

names_of_no_mount : AnswersWhatWas mounted (Ls 3) (Ok (Names [])) mounted → ⊥
names_of_no_mount e = e

holes_told_as_pages : AnswersWhatWas mounted (Stat 2 (codes "a")) (Ok (StatAnswer 3 3 3 1)) mounted → ⊥
holes_told_as_pages e = (let wrong : false ≡ true = subst (λ a. (pages_in a == 0) ≡ true) (sym e) refl in cc)

numbers_of_no_file : AnswersWhatWas mounted (Stat 2 (codes "b")) (Ok (StatAnswer 0 0 0 0)) mounted → ⊥
numbers_of_no_file e = e

another_home_told : AnswersWhatWas mounted (Attach 1) (Ok (Home 1)) mounted → ⊥
another_home_told e = (let wrong : false ≡ true = subst (λ a. (home_in a == 0) ≡ true) (sym e) refl in cc)

home_of_no_task : AnswersWhatWas mounted (Attach 2) (Ok (Home 0)) mounted → ⊥
home_of_no_task e = e

refused_create_makes_a_file : ChangesRefused mounted (Create 2 (codes "a/b")) BadName (plain_step mounted (Create 2 (codes "b"))).1 → ⊥
refused_create_makes_a_file e = (let wrong : false ≡ true = subst (λ x. (files_on (slot_at x 2) == 2) ≡ true) e refl in cc)

limit_forgotten : SameLimits (slot_at mounted 2) (Some (record { limits = record { max = None; min = 2; inodes = None }; files = [] })) → ⊥
limit_forgotten e = (let wrong : true ≡ false = subst (λ (l : Limits). is_some l.max ≡ false) e refl in cc)

mount_gone : SameLimits (slot_at mounted 2) None → ⊥
mount_gone e = e

-- ---- a map of another file, and a file that is not kept

abbrev file_of_spot : Option Spot → ℕ
file_of_spot None = 99
file_of_spot (Some s) = s.file_no

abbrev file_of_name : Option (ℕ × File) → ℕ
file_of_name None = 99
file_of_name (Some f) = f.0

mapped_on_another_file :
    Changes shared (Map 1 0 (codes "a") 0 1 Shared NoReserve) (MapNo 4) (plain_step shared (Map 1 0 (codes "b") 0 1 Shared NoReserve)).1 → ⊥
mapped_on_another_file e = (let wrong : 1 ≡ 0 = ap (λ (s : State). (spot_or (map_named s 0 1 4)).file_no) e.1.0 in absurd (omega (arith, wrong)))

number_in_use : Changes shared (Map 1 0 (codes "a") 0 1 Shared NoReserve) (MapNo 2) (plain_step shared (Map 1 0 (codes "a") 0 1 Shared NoReserve)).1 → ⊥
number_in_use e = (let there : 1 ≡ 99 = ap file_of_spot e.0 in absurd (omega (arith, there)))

-- an anonymous map that is not made, that has the number of another, and that is made of a file with a name
anon_and_forgotten : Changes shared (Anon 1 1 Private NoReserve) (MapNo 4) shared → ⊥
anon_and_forgotten e = (let wrong : false ≡ true = ap (λ (s : State). is_some (map_named s 0 1 4)) e.1.0 in cc)

anon_of_a_number_in_use : Changes shared (Anon 1 1 Private NoReserve) (MapNo 2) (plain_step shared (Anon 1 1 Private NoReserve)).1 → ⊥
anon_of_a_number_in_use e = (let there : 1 ≡ 99 = ap file_of_spot e.0 in absurd (omega (arith, there)))

anon_of_a_named_file : Changes shared (Anon 1 1 Private NoReserve) (MapNo 4) (plain_step shared (Map 1 0 (codes "b") 0 1 Private NoReserve)).1 → ⊥
anon_of_a_named_file e = (let wrong : true ≡ false = ap (λ (s : State). is_some (spot_or (map_named s 0 1 4)).file.name) e.1.0 in cc)

created_and_forgotten : Changes shared (Create 0 (codes "c")) Done shared → ⊥
created_and_forgotten e = (let wrong : 2 ≡ 3 = ap (λ (s : State). files_on (slot_at s 0)) e in absurd (omega (arith, wrong)))

-- ---- a name that means another file, a name and a number that are lost

abbrev stored : State
stored = (plain_step shared into_first).1

-- the names of the two files are exchanged
abbrev exchanged : Slot → Slot
exchanged None = None
exchanged (Some m) = Some (record m { files = record (file_in m 0) { name = Some (codes "b") } ∷ record (file_in m 1) { name = Some (codes "a") } ∷ [] })

abbrev stored_bytes : List ℕ
stored_bytes = shown_in stored 0 0 0

still_there : take 2 stored_bytes ≡ 0 ∷ 9 ∷ []
still_there = refl

name_means_another_file : StillNamed 1024 (exchanged (slot_at stored 0)) (codes "a") 0 stored_bytes → ⊥
name_means_another_file e = grind (arith, common_steps)

name_is_lost : StillNamed 1024 (slot_at machine 0) (codes "a") 0 stored_bytes → ⊥
name_is_lost e = (let wrong : false ≡ true = ap is_some e.1 in cc)

number_is_lost : (q : Spot) → map_named machine 0 1 1 ≡ Some q → ⊥
number_is_lost q e = (let wrong : false ≡ true = ap is_some e in cc)

-- a map that stands on another file, with the same bytes: both files are empty, and exchange their names
abbrev renamed : State
renamed = with_slot shared 0 (exchanged (slot_at shared 0))

map_of_another_file : (p q : Spot) → map_named shared 0 1 1 ≡ Some p → map_named renamed 0 1 1 ≡ Some q → StillMapped shared (Df 0) (Ok Done) renamed 0 p q 0 → ⊥
map_of_another_file p q was is still =
    (let place : 0 ≡ p.file_no = ap file_of_spot was in
    let old : named_on (slot_at shared 0) (codes "a") ≡ Some (p.file_no, p.file) = ap (λ (o : Option Spot). option_map (λ (s : Spot). (s.file_no, s.file)) o) was in
    let new : 1 ≡ q.file_no = ap file_of_name (still.file (codes "a") refl old) in
    let stands : 0 ≡ q.file_no = ap file_of_spot is in
    absurd (omega (arith, new, stands)))

-- two maps of one file, of which one moves to another
abbrev moved : Slot → Slot
moved None = None
moved (Some m) = Some (with_file (with_file m 0 (record (file_in m 0) { maps = (file_in m 0).maps ++ map_in (file_in m 1) 1 ∷ [] })) 1 (record (file_in m 1) { maps = take 1 (file_in m 1).maps }))

abbrev parted : State
parted = with_slot shared 0 (moved (slot_at shared 0))

maps_are_of_one_file : SameFiles true (map_named shared 0 1 2) (map_named shared 0 1 3)
maps_are_of_one_file = refl

maps_are_parted : SameFiles true (map_named parted 0 1 2) (map_named parted 0 1 3) → ⊥
maps_are_parted same = (let wrong : false ≡ true = same in cc)

-- ---- steps that are not built yet: what they leave is what is promised

abbrev punched_out : Step
punched_out = Punch 0 (codes "a") 0 1

punch_shows_zeros : take 2 (stored_over stored punched_out (Ok Done) 0 0 0 stored_bytes) ≡ take 2 (shown_in (plain_step stored punched_out).1 0 0 0)
punch_shows_zeros = refl

punch_elsewhere : take 2 (stored_over stored (Punch 0 (codes "b") 0 1) (Ok Done) 0 0 0 stored_bytes) ≡ take 2 (shown_in (plain_step stored (Punch 0 (codes "b") 0 1)).1 0 0 0)
punch_elsewhere = refl

truncated_map_shows_zeros :
    take 2 (seen_over forked (Truncate 0 (codes "a") 0) (Ok Done) 0 0 1 0 (seen_in forked 0 0 1 0)) ≡ take 2 (seen_in (plain_step forked (Truncate 0 (codes "a") 0)).1 0 0 1 0)
truncated_map_shows_zeros = refl

abbrev pub unmapped_first : Step
unmapped_first = Unmap 1 0 1 0 1

unmap_shows_the_file : take 2 (seen_over forked unmapped_first (Ok Done) 0 0 0 0 (seen_in forked 0 0 0 0)) ≡ take 2 (seen_in (plain_step forked unmapped_first).1 0 0 0 0)
unmap_shows_the_file = refl

-- the child's map keeps its copy
unmap_of_another : take 2 (seen_over forked unmapped_first (Ok Done) 0 0 1 0 (seen_in forked 0 0 1 0)) ≡ take 2 (seen_in (plain_step forked unmapped_first).1 0 0 1 0)
unmap_of_another = refl

part_is_not_the_end : is_ended_number forked unmapped_first (Ok Done) 0 1 1 ≡ false
part_is_not_the_end = refl

whole_is_the_end : is_ended_number forked (Unmap 1 0 1 0 2) (Ok Done) 0 1 1 ≡ true
whole_is_the_end = refl

-- ---- copies that an owner takes back: only at the index of its write, only from other maps, and it keeps its own

-- parent and child hold two copies
abbrev sharing : State
sharing = (plain_step (after_all machine (Nr 2 ∷ Connect 1 0 ∷ Create 0 (codes "a") ∷ Map 1 0 (codes "a") 0 2 Private Reserve ∷ Store 1 0 1 0 0 (5 ∷ []) ∷ Store 1 0 1 1 0 (7 ∷ []) ∷ [])) (Fork 1 2)).1

abbrev taken : State
taken = (plain_step sharing by_owner).1

-- the file's map at this place is another
abbrev pub with_map_of : (map : ℕ) → MapOf → State → State
with_map_of map x t = elim (slot_at t 0) [ None ↦ t | Some m ↦ with_slot t 0 (Some (with_file m 0 (with_map (file_in m 0) map x))) ]

abbrev pub parent_in : State → Spot
parent_in t = spot_or (map_named t 0 1 1)

abbrev pub child_in : State → Spot
child_in t = spot_or (map_named t 0 2 1)

child_lost_its_copy : copy_of (place_at (child_in taken).map 0) ≡ None
child_lost_its_copy = refl

lost_to_the_owner : LosesTo sharing by_owner taken 0 (child_in sharing) (child_in taken) 0
lost_to_the_owner = grind (arith, common_steps)

-- the child's copy at the next index goes too
abbrev lost_next : State
lost_next = with_map_of 1 (with_place (child_in taken).map 1 (Live false None)) taken

abbrev byte_at : Spot → ℕ → ℕ
byte_at p i = slice_index_or (value 1024 p.file p.map i) 0 0

lost_at_another_index : StillMapped sharing by_owner (Ok Done) lost_next 0 (child_in sharing) (child_in lost_next) 1 → ⊥
lost_at_another_index still = grind (arith, common_steps)

-- the owner loses its copy with the child
abbrev none_kept : State
none_kept = with_map_of 0 (with_place (parent_in taken).map 0 (Live true None)) taken

owner_keeps_none : LosesTo sharing by_owner none_kept 0 (child_in sharing) (child_in none_kept) 0 → ⊥
owner_keeps_none lost = (let wrong : false ≡ true = lost.1.1.kept in cc)

-- the child is not marked
abbrev unmarked : State
unmarked = with_map_of 1 (record (child_in taken).map { unmapped = false }) taken

lost_without_a_mark : LosesTo sharing by_owner unmarked 0 (child_in sharing) (child_in unmarked) 0 → ⊥
lost_without_a_mark lost = (let wrong : false ≡ true = lost.1.1.marked in cc)

-- a map of another file
lost_in_another_file : LosesTo sharing by_owner taken 0 (record (child_in sharing) { file_no = 1 }) (child_in taken) 0 → ⊥
lost_in_another_file lost = (let wrong : 0 ≡ 1 = lost.1.0 in absurd (omega (arith, wrong)))

-- the map that stores
own_copy_is_kept : LosesTo sharing by_owner taken 0 (parent_in sharing) (parent_in taken) 0 → ⊥
own_copy_is_kept lost = lost.1.2 refl

-- a child that stores takes nothing back
lost_to_a_child : LosesTo sharing (Store 2 0 1 0 0 (6 ∷ [])) taken 0 (parent_in sharing) (parent_in taken) 0 → ⊥
lost_to_a_child lost = (let wrong : false ≡ true = lost.1.1.owner in cc)

-- ---- a map that is kept, with another range, sharing or owner

abbrev kept_as : (MapOf → MapOf) → State
kept_as h = with_map_of 1 (h (child_in taken).map) taken

abbrev Kept : State → Type 0
Kept t = StillMapped sharing by_owner (Ok Done) t 0 (child_in sharing) (child_in t) 1

starts_elsewhere : Kept (kept_as (λ x. record x { start = 1 })) → ⊥
starts_elsewhere still = (let wrong : 1 ≡ 0 = ap (λ (x : Shape). x.start) still.shape in absurd (omega (arith, wrong)))

has_fewer_pages : Kept (kept_as (λ x. record x { places = take 1 x.places })) → ⊥
has_fewer_pages still = (let wrong : 1 ≡ 2 = ap (λ (x : Shape). x.pages) still.shape in absurd (omega (arith, wrong)))

is_shared_now : Kept (kept_as (λ x. record x { sharing = Shared })) → ⊥
is_shared_now still = (let wrong : true ≡ false = ap (λ (x : Shape). is_shared x.sharing) still.shape in cc)

is_owner_now : Kept (kept_as (λ x. record x { owner = true })) → ⊥
is_owner_now still = (let wrong : true ≡ false = ap (λ (x : Shape). x.owner) still.shape in cc)

-- ---- an unmap takes the map that it names, whatever other maps there are

abbrev two_maps : State
two_maps =
    after_all machine
    (Nr 2 ∷ Connect 1 0 ∷ Create 0 (codes "a") ∷ Map 1 0 (codes "a") 0 1 Shared Reserve ∷ Map 1 0 (codes "a") 0 1 Shared NoReserve ∷ [])

-- the second map has no index, as no run leaves it
abbrev one_unmapped : State
one_unmapped = (plain_step (with_map_of 1 (record (map_at two_maps 0 0 1) { places = Gone ∷ [] }) two_maps) (Unmap 1 0 1 0 1)).1

named_goes : is_some (map_named one_unmapped 0 1 1) ≡ false
named_goes = refl

other_stays : is_some (map_named one_unmapped 0 1 2) ≡ true
other_stays = refl
