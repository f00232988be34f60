-- The machine's own steps change what is told of them, by computation.
use Rattle.std.proofs.Common.{◌≡◌, ◌==◌, inl, inr, true, false, Ok, Err, [], ◌∷◌, refl, if◌then◌else◌, codes}
use Rattle.hp_laws.proofs.Variants.{Anon, Create, Fault, Fork, Load, Exit, Map, Nr, Overcommit, Preallocate, Private, Punch, Reserve}
use Rattle.hp_laws.proofs.Variants.{Shared, Step, Store, Write, Mount, Remount, Truncate, Umount, Unlink, Unmap}
use Rattle.hp_model.proofs.Words.{Reply, State, plain_step}
use Rattle.hp_model.specs.machine.Footprint.{Changes, ChangesRefused}
use Rattle.hp_worked.proofs.WorkedFootprint.{connecting, forked, imaged, named_two, pages_two, roomy, unforked}
use Rattle.hp_worked.proofs.WorkedPromises.{after_all}

abbrev ChangesSo : State → Step → Reply → State → Type 0
ChangesSo s step (Ok a) t = Changes s step a t
ChangesSo s step (Err r) t = ChangesRefused s step r t

abbrev Has : State → Step → Type 0
Has s step = ChangesSo s step (plain_step s step).0 (plain_step s step).1

connect_has : Has pages_two connecting
connect_has = refl

exit_has : Has named_two (Exit 1)
exit_has = (refl, refl)

fork_has : Has unforked (Fork 1 2)
fork_has = (refl, refl)

exit_of_child_has : Has forked (Exit 2)
exit_of_child_has = (refl, refl)

exit_of_parent_has : Has forked (Exit 1)
exit_of_parent_has = (refl, refl)

create_has : Has named_two (Create 0 (codes "c"))
create_has = refl

unlink_has : Has imaged (Unlink 0 (codes "a"))
unlink_has = (refl, refl)

truncate_has : Has imaged (Truncate 0 (codes "a") 3)
truncate_has = (refl, refl)

truncate_down_has : Has forked (Truncate 0 (codes "a") 0)
truncate_down_has = (refl, refl)

punch_has : Has imaged (Punch 0 (codes "a") 0 1)
punch_has = (refl, refl)

preallocate_has : Has forked (Preallocate 0 (codes "a") 0 1)
preallocate_has = refl

map_has : Has imaged (Map 1 0 (codes "a") 0 3 Shared Reserve)
map_has = (refl, (refl, refl))

anon_has : Has imaged (Anon 1 2 Private Reserve)
anon_has = (refl, (refl, refl))

unmap_has : Has forked (Unmap 1 0 1 0 1)
unmap_has = (refl, refl)

nr_has : Has pages_two (Nr 5)
nr_has = (refl, refl)

overcommit_has : Has pages_two (Overcommit 5)
overcommit_has = refl

mount_has : Has pages_two (Mount 1 (codes "size=3K,min_size=1K"))
mount_has = (refl, (refl, refl))

umount_has : Has (after_all pages_two (Mount 1 (codes "size=3K,min_size=1K") ∷ [])) (Umount 1)
umount_has = (refl, refl)

remount_has : Has (after_all pages_two (Mount 1 (codes "size=3K,min_size=1K") ∷ [])) (Remount 1 (codes "size=2K"))
remount_has = (refl, refl)

-- ---- accesses of the machine

-- the owner's store, where no page is to be had, takes the child's copy; with one it has a copy of its own
owner_takes_back : Has forked (Store 1 0 1 0 0 (7 ∷ []))
owner_takes_back = inr (refl, refl, refl)

owner_splits : Has roomy (Store 1 0 1 0 0 (7 ∷ []))
owner_splits = inl (_, refl, refl, (refl, refl))

child_splits : Has roomy (Store 2 0 1 0 1 (7 ∷ []))
child_splits = inl (_, refl, refl, (refl, refl))

child_waits : Has forked (Store 2 0 1 0 1 (7 ∷ []))
child_waits = refl

first_copy : Has forked (Fault 1 0 1 1 Write)
first_copy = (_, refl, refl, (refl, refl))

read_of_zeros : Has roomy (Load 2 0 1 1 0 4)
read_of_zeros = (_, refl, refl, (refl, refl))

write_over_image : Has imaged (Store 1 0 1 0 3 (9 ∷ 8 ∷ []))
write_over_image = (_, refl, refl, (refl, refl))

abbrev shared_image : State
shared_image = after_all imaged (Map 1 0 (codes "a") 0 3 Shared Reserve ∷ [])

shared_store : Has shared_image (Store 1 0 2 0 3 (9 ∷ 8 ∷ []))
shared_store = (_, refl, (refl, refl), (λ e. refl))

shared_first : Has shared_image (Fault 1 0 2 2 Write)
shared_first = (_, refl, (refl, refl), (λ e. (let wrong : false ≡ true = e in cc)))

filled_range : Has forked (Preallocate 0 (codes "a") 0 1)
filled_range = refl

filled : Has (after_all pages_two (Create 0 (codes "a") ∷ [])) (Preallocate 0 (codes "a") 1 3)
filled = ((λ i. if i == 1 then 0 else 1), (refl, refl))
