-- Machines that people would hate, each refused by what is promised: nearly all by the footprint alone.
use Rattle.std.proofs.Common.{◌≡◌, ℕ, suc, ⊎_elim, true, false, None, Option, option_map, Some, Ok, Err, List, [], ◌∷◌, length, take, map, replicate, sum, sym, ap, arith, ◌∙◌}
use Rattle.std.proofs.Common.{refl, subst, codes}
use Rattle.hp_laws.proofs.Variants.{Answer, Connect, Create, Done, Fault, Fork, Load, Exit, Map, NoReserve, Nr, Number, Preallocate, Private, Punch, Read, Reserve, MapNo}
use Rattle.hp_laws.proofs.Variants.{Shared, Step, Store, Write, NoSuchTask, TakenByOwner, Unlink, Unmap}
use Rattle.hp_model.proofs.Words.{File, Mount as MountOf, Node, maps_of, Slot, State, Spot, copy_of, counts_in, is_among, map_named, new_file, place_at, plain_step, slot_at, with_slot, IsPromised}
use Rattle.hp_model.specs.machine.Footprint.{Changes, frames_in}
use Rattle.hp_worked.proofs.WorkedPromises.{after_all}
use Rattle.hp_worked.proofs.WorkedWords.{machine}

abbrev pub pages_two : State
pages_two = after_all machine (Nr 2 ∷ [])

abbrev pub connecting : Step
connecting = Connect 1 0

abbrev connected : State
connected = (plain_step pages_two connecting).1

-- 1. a connect answers `ok 7`
no_number : (t : State) → IsPromised pages_two connecting (Ok (Number 7)) t → ⊥
no_number t p = (let wrong : Number 7 ≡ Done = p.answers in cc)

-- what a connect leaves is one machine
connects : (t : State) → IsPromised pages_two connecting (Ok Done) t → t ≡ connected
connects t p = p.footprint.0

-- 2. the page's size doubles
no_other_size : IsPromised pages_two connecting (Ok Done) (record connected { page_size = 2048 }) → ⊥
no_other_size p = (let wrong : 2048 ≡ 1024 = ap (λ (s : State). s.page_size) (connects _ p) in omega (arith, wrong))

-- 3. all slots but the first are gone
no_slot_gone : IsPromised pages_two connecting (Ok Done) (record connected { slots = take 1 connected.slots }) → ⊥
no_slot_gone p = (let wrong : 1 ≡ 4 = ap (λ (s : State). length s.slots) (connects _ p) in omega (arith, wrong))

-- 4. the frames that are not in the pool are lost
no_frame_gone : IsPromised pages_two connecting (Ok Done) (record connected { nodes = map (λ (n : Node). record n { frames = n.total }) connected.nodes }) → ⊥
no_frame_gone p = (let wrong : 2 ≡ 8 = ap (λ (s : State). sum (frames_in s)) (connects _ p) in omega (arith, wrong))

-- 5. a node is gone
no_node_gone : IsPromised pages_two connecting (Ok Done) (record connected { nodes = record { frames = 4; total = 2; surp = 0 } ∷ [] }) → ⊥
no_node_gone p = (let wrong : 1 ≡ 2 = ap (λ (s : State). length s.nodes) (connects _ p) in omega (arith, wrong))

-- 6. the table is full of one task
no_filled_table : (n : ℕ) → IsPromised pages_two connecting (Ok Done) (record connected { table = replicate (suc (suc n)) (1, 0) }) → ⊥
no_filled_table n p = (let wrong : suc (suc (length (replicate n (1, 0)))) ≡ 1 = ap (λ (s : State). length s.table) (connects _ p) in omega (arith, wrong))

-- ---- accesses

abbrev pub unforked : State
unforked = after_all machine (Nr 2 ∷ Connect 1 0 ∷ Create 0 (codes "a") ∷ Map 1 0 (codes "a") 0 2 Private Reserve ∷ Store 1 0 1 0 0 (5 ∷ []) ∷ [])

abbrev pub forked : State
forked = (plain_step unforked (Fork 1 2)).1

abbrev pub roomy : State
roomy = record forked { overcommit = 1 }

-- 7. a child that only reads takes a page of its own: what the read leaves is the machine as it was
no_page_for_a_read : (t : State) → IsPromised roomy (Fault 2 0 1 0 Read) (Ok Done) t → t ≡ roomy
no_page_for_a_read t p = p.footprint.0

abbrev child_split : State
child_split = (plain_step roomy (Fault 2 0 1 0 Write)).1

no_child_split : IsPromised roomy (Fault 2 0 1 0 Read) (Ok Done) child_split → ⊥
no_child_split p = (let wrong : 1 ≡ 0 = ap (λ (s : State). (counts_in s).surp) (no_page_for_a_read child_split p) in omega (arith, wrong))

-- 8. a read through a private map of a file's page copies it
abbrev pub imaged : State
imaged = after_all machine (Nr 3 ∷ Connect 1 0 ∷ Create 0 (codes "a") ∷ Preallocate 0 (codes "a") 0 1 ∷ Map 1 0 (codes "a") 0 1 Private NoReserve ∷ [])

no_copy_for_a_read : (t : State) → IsPromised imaged (Fault 1 0 1 0 Read) (Ok Done) t → t ≡ imaged
no_copy_for_a_read t p = p.footprint.0

abbrev copied_image : State
copied_image = (plain_step imaged (Fault 1 0 1 0 Write)).1

no_copied_image : IsPromised imaged (Fault 1 0 1 0 Read) (Ok Done) copied_image → ⊥
no_copied_image p = (let wrong : 1 ≡ 2 = ap (λ (s : State). (counts_in s).free) (no_copy_for_a_read copied_image p) in omega (arith, wrong))

-- 9. a child's write fault that takes nothing is answered `ok`
abbrev stamp_of : Option Spot → ℕ
stamp_of None = 0
stamp_of (Some p) = elim (copy_of (place_at p.map 0)) [ None ↦ 0 | Some c ↦ c.stamp ]

abbrev childs_stamp : State → ℕ
childs_stamp s = stamp_of (map_named s 0 2 1)

no_stamp_kept : Changes forked (Fault 2 0 1 0 Write) Done forked → ⊥
no_stamp_kept e =
    ⊎_elim
    (λ took.
    let same : 1 ≡ took.0.stamp = ap childs_stamp took.3.0 in
    let fresh : is_among 1 (1 ∷ 1 ∷ []) ≡ false = subst (λ n. is_among n (1 ∷ 1 ∷ []) ≡ false) (sym same) took.1 in
    let wrong : true ≡ false = fresh in cc)
    (λ back. (let wrong : false ≡ true = back.0 in cc)) e

no_ok_for_nothing : IsPromised forked (Fault 2 0 1 0 Write) (Ok Done) forked → ⊥
no_ok_for_nothing p = no_stamp_kept p.footprint.0

-- 10. an exit turns the order of all names round
abbrev pub named_two : State
named_two = after_all machine (Connect 1 0 ∷ Create 0 (codes "a") ∷ Create 0 (codes "b") ∷ [])

abbrev turned : State
turned =
    record (with_slot named_two 0 (Some (record { limits = record { max = None; min = 0; inodes = None }; files = new_file (Some (codes "b")) ∷ new_file (Some (codes "a")) ∷ [] }))) { table = [] }

-- the first byte of the first name
abbrev first_name : State → ℕ
first_name s = elim (slot_at s 0) [ None ↦ 0 | Some m ↦ elim m.files [ [] ↦ 0 | f ∷ fs ↦ elim f.name [ None ↦ 0 | Some n ↦ elim n [ [] ↦ 0 | b ∷ bs ↦ b ] ] ] ]

no_turn : IsPromised named_two (Exit 1) (Ok Done) turned → ⊥
no_turn p = (let wrong : 98 ≡ 97 = ap first_name p.footprint.0.0 in omega (arith, wrong))

-- ---- older hated machines

-- the owner's store takes the child's copy, though a page can be had
abbrev taken_though : State
taken_though = record ((plain_step forked (Store 1 0 1 0 0 (7 ∷ []))).1) { overcommit = 1 }

no_needless_taking : IsPromised roomy (Store 1 0 1 0 0 (7 ∷ [])) (Ok Done) taken_though → ⊥
no_needless_taking p =
    ⊎_elim
    (λ took. (let gone : 0 ≡ 1 = ap childs_stamp took.3.0 in omega (arith, gone)))
    (λ back. (let wrong : true ≡ false = back.1 in cc)) p.footprint.0

-- a create drops the pages of another file
abbrev dropped : State
dropped = record imaged { slots = (plain_step (plain_step imaged (Punch 0 (codes "a") 0 1)).1 (Create 0 (codes "c"))).1.slots }

no_drop : IsPromised imaged (Create 0 (codes "c")) (Ok Done) dropped → ⊥
no_drop p = (let wrong : 3 ≡ 2 = ap (λ (s : State). (counts_in s).free) p.footprint.0 in omega (arith, wrong))

-- a refused step that changes the page's size, and a fork that is refused and does so
no_size_by_refusal : IsPromised forked (Fork 3 4) (Err NoSuchTask) (record forked { page_size = 7 }) → ⊥
no_size_by_refusal p = (let wrong : 7 ≡ 1024 = ap (λ (s : State). s.page_size) p.footprint.1.0 in omega (arith, wrong))

-- an unlink takes the name, and the file's page stays for ever
abbrev unnamed : State
unnamed = after_all pages_two (Create 0 (codes "a") ∷ Preallocate 0 (codes "a") 0 1 ∷ [])

abbrev kept_for_ever : State
kept_for_ever = record unnamed { slots = map (option_map (λ (m : MountOf). record m { files = map (λ (f : File). record f { name = None }) m.files })) unnamed.slots }

no_page_for_ever : IsPromised unnamed (Unlink 0 (codes "a")) (Ok Done) kept_for_ever → ⊥
no_page_for_ever p = (let wrong : 1 ≡ 2 = ap (λ (s : State). (counts_in (record s { nr = 2 })).free) p.footprint.0.0 in omega (arith, wrong))

-- an exit of the child spends the reservation of its parent
abbrev spent_by_exit : State
spent_by_exit = (plain_step (plain_step roomy (Exit 2)).1 (Unmap 1 0 1 1 2)).1

no_spent_reservation : IsPromised roomy (Exit 2) (Ok Done) spent_by_exit → ⊥
no_spent_reservation p = (let wrong : 0 ≡ 1 = ap (λ (s : State). (counts_in s).rsvd) p.footprint.0.0 in omega (arith, wrong))

-- a store raises overcommit, and `nr 1` leaves 4
no_raised_overcommit : IsPromised forked (Store 1 0 1 1 0 (7 ∷ [])) (Ok Done) (record ((plain_step forked (Store 1 0 1 1 0 (7 ∷ []))).1) { overcommit = 9 }) → ⊥
no_raised_overcommit p = (let wrong : 9 ≡ 0 = ap (λ (s : State). s.overcommit) p.footprint.0.3.0 in omega (arith, wrong))

no_other_nr : (t : State) → t.nr ≡ 4 → IsPromised machine (Nr 1) (Ok (Number 4)) t → ⊥
no_other_nr t four p = (let wrong : 4 ≡ 1 = sym four ∙ ap (λ (s : State). s.nr) p.footprint.0.0 in omega (arith, wrong))

-- a punch leaves the child's copy
abbrev copy_left : State
copy_left = forked

no_copy_left : IsPromised forked (Punch 0 (codes "a") 0 1) (Ok Done) copy_left → ⊥
no_copy_left p = (let wrong : 1 ≡ 0 = ap childs_stamp p.footprint.0.0 in omega (arith, wrong))

-- a fork gives a third task the map too
abbrev third : State
third = (plain_step (plain_step forked (Connect 3 0)).1 (Map 3 0 (codes "a") 0 1 Shared NoReserve)).1

abbrev maps_on : Slot → ℕ
maps_on None = 0
maps_on (Some m) = length (maps_of m)

no_third : IsPromised unforked (Fork 1 2) (Ok Done) (record third { table = forked.table }) → ⊥
no_third p = (let wrong : 3 ≡ 2 = ap (λ (s : State). maps_on (slot_at s 0)) p.footprint.0.0 in omega (arith, wrong))

-- a load through a marked map is answered
abbrev marked : State
marked = (plain_step forked (Store 1 0 1 0 0 (7 ∷ []))).1

no_load_of_marked : (a : Answer) (t : State) → IsPromised marked (Load 2 0 1 0 0 1) (Ok a) t → ⊥
no_load_of_marked a t p = (let wrong : Ok a ≡ Err TakenByOwner = p.tests in cc)

-- a map that reserves nothing moves a free page to another node
abbrev moving : Step
moving = Map 1 0 (codes "a") 0 1 Private NoReserve

abbrev bare_file : State
bare_file = after_all pages_two (Connect 1 0 ∷ Create 0 (codes "a") ∷ [])

abbrev moved : State
moved = record ((plain_step bare_file moving).1) { nodes = record { frames = 4; total = 2; surp = 0 } ∷ record { frames = 4; total = 0; surp = 0 } ∷ [] }

abbrev first_total : List Node → ℕ
first_total [] = 0
first_total (n ∷ ns) = n.total

no_moved_page : IsPromised bare_file moving (Ok (MapNo 1)) moved → ⊥
no_moved_page p = (let wrong : 2 ≡ 1 = ap first_total (p.footprint.1 refl refl (λ n. refl)) in omega (arith, wrong))
