-- What soundness refuses, by computation: a fork's copies in other states than those that events leave.
use Rattle.std.proofs.Common.{◌≡◌, ℕ, ◌<◌, ◌≤◌, true, false, None, Some, [], ◌∷◌, length, refl, ap, arith, codes}
use Rattle.hp_laws.proofs.Variants.{Connect, Create, Fork, Live, Map as MapStep, Nr, Private, Reserve, Shared, Store}
use Rattle.hp_model.proofs.Words.{Copy, File, HasCopy, IsSoundMount, Map, Mount, Slot, copy_of, file_in, map_in, new_file, no_map, open_mount, place_at, slot_at, with_file, with_map, with_new}
use Rattle.hp_model.proofs.Words.{with_place}
use Rattle.hp_worked.proofs.WorkedPromises.{after_all}
use Rattle.hp_worked.proofs.WorkedWords.{machine}

abbrev on_slot : Slot → Mount
on_slot None = open_mount
on_slot (Some m) = m

-- a private map of two pages, with a copy at index 0 that it shares with its child
abbrev forked : Mount
forked =
    on_slot
    (slot_at (after_all machine (Nr 2 ∷ Connect 1 0 ∷ Create 0 (codes "a") ∷ MapStep 1 0 (codes "a") 0 2 Private Reserve ∷ Store 1 0 1 0 0 (5 ∷ []) ∷ Fork 1 2 ∷ [])) 0)

abbrev copy_at : Map → ℕ → Copy
copy_at x i = elim (copy_of (place_at x i)) [ None ↦ record { stamp = 0; page = record { node = 9; bytes = [] } } | Some copy ↦ copy ]

abbrev file : File
file = file_in forked 0

abbrev parent : Map
parent = map_in file 0

abbrev child : Map
child = map_in file 1

abbrev copy : Copy
copy = copy_at parent 0

-- the mount with another child, and with another parent
abbrev with_child : Map → Mount
with_child x = with_file forked 0 (with_map file 1 x)

abbrev with_parent : Map → Mount
with_parent x = with_file forked 0 (with_map file 0 x)

-- one copy, held twice
held_by_both : HasCopy child 0 copy
held_by_both = refl

-- the child's has other bytes
abbrev other_bytes : Mount
other_bytes = with_child (with_place child 0 (Live false (Some (record copy { page = record { node = copy.page.node; bytes = 6 ∷ [] } }))))

bytes_differ : IsSoundMount other_bytes → ⊥
bytes_differ sound =
    let f : File = file_in other_bytes 0 in
    let same = ((sound.files 0 (new_file None) (omega arith)).copies 0 0 (copy_at (map_in f 0) 0) (copy_at (map_in f 1) 0) (0, refl) (1, refl) refl).1 in
    let wrong : 1024 ≡ 1 = ap (λ (c : Copy). length c.page.bytes) same in absurd (omega (arith, wrong))

-- the child's stands at another index
abbrev other_index : Mount
other_index = with_child (with_place (with_place child 0 (Live false None)) 1 (Live false (Some copy)))

index_differs : IsSoundMount other_index → ⊥
index_differs sound =
    let f : File = file_in other_index 0 in
    let wrong : 0 ≡ 1 = ((sound.files 0 (new_file None) (omega arith)).copies 0 1 (copy_at (map_in f 0) 0) (copy_at (map_in f 1) 1) (0, refl) (1, refl) refl).0 in absurd (omega (arith, wrong))

-- the child owns it too
two_owners : IsSoundMount (with_child (record child { owner = true })) → ⊥
two_owners sound = let wrong : 2 ≤ 1 = (sound.files 0 (new_file None) (omega arith)).owners copy.stamp in absurd (omega (arith, wrong))

-- the owner has not consumed its reservation
abbrev unspent : Mount
unspent = with_parent (with_place parent 0 (Live false (Some copy)))

not_consumed : IsSoundMount unspent → ⊥
not_consumed sound =
    let wrong : true ≡ false = ((sound.files 0 (new_file None) (omega arith)).maps 0 no_map (omega arith) 0 copy refl).consumed refl in cc

-- a shared map has a copy
in_a_shared_map : IsSoundMount (with_child (record child { sharing = Shared })) → ⊥
in_a_shared_map sound = let wrong : true ≡ false = ((sound.files 0 (new_file None) (omega arith)).maps 1 no_map (omega arith) 0 copy refl).private in cc

-- the file is shorter than the copy's index
past_the_length : IsSoundMount (with_file forked 0 (record file { cells = [] })) → ⊥
past_the_length sound = let wrong : 0 < 0 = ((sound.files 0 (new_file None) (omega arith)).maps 0 no_map (omega arith) 0 copy refl).below in absurd (omega (arith, wrong))

-- another file has the stamp
in_two_files : IsSoundMount (with_new forked file) → ⊥
in_two_files sound = let wrong : 2 ≤ 1 = sound.stamps copy.stamp in absurd (omega (arith, wrong))

-- two files have one name
name_of_two_files : IsSoundMount (with_new forked (new_file (Some (codes "a")))) → ⊥
name_of_two_files sound = let wrong : 2 ≤ 1 = sound.names (codes "a") in absurd (omega (arith, wrong))

-- two maps of one task have one number
number_of_two_maps : IsSoundMount (with_child (record child { task = 1 })) → ⊥
number_of_two_maps sound = let wrong : 2 ≤ 1 = sound.numbers 1 1 in absurd (omega (arith, wrong))
