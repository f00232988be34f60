-- A fork that is refused on its second slot is undone, and a mount that is refused after its grant leaves nothing, by computation.
use Rattle.std.proofs.Common.{◌≡◌, ℕ, ◌==◌, Bool, true, false, Ok, Err, [], ◌∷◌, refl, codes}
use Rattle.hp_laws.proofs.Variants.{Anon, Attach, Connect, Create, Df, Done, Fork, ForkMaps, Load, Map, MapNo, Meminfo, Mount, NoSuchSlot, NoSuchTask, Nr, Number, OutOfMemory, Pool as OnPool, Private}
use Rattle.hp_laws.proofs.Variants.{Reserve, Slot as OnSlot, SlotEvent, Stat, StatAnswer, Store, Tasks}
use Rattle.hp_model.proofs.Words.{Chooser, plain_choice, run_by}
use Rattle.hp_model.specs.declared.event.SlotEvent.TheVariants.{Mount as MountEvent}
use Rattle.hp_worked.proofs.WorkedWords.{machine, counts}

abbrev is_refused : ℕ → SlotEvent → Bool
is_refused k (ForkMaps parent child) = k == 2
is_refused k other = false

abbrev is_late : SlotEvent → Bool
is_late (MountEvent options) = true
is_late other = false

-- memory is refused to a fork on slot 2, and after the grant to a mount on slot 3
abbrev meager : Chooser
meager s (Tasks e) = plain_choice s (Tasks e)
meager s (OnPool e) = plain_choice s (OnPool e)
meager s (OnSlot k e) = record (plain_choice s (OnSlot k e)) { refused = is_refused k e; after_grant = (k == 3) }

fork_undone : run_by meager machine
    (Nr 4 ∷ Connect 1 0 ∷ Connect 2 1 ∷ Mount 2 (45 ∷ []) ∷ Create 2 (97 ∷ []) ∷ Anon 1 1 Private Reserve ∷ Map 1 2 (97 ∷ []) 0 1 Private Reserve ∷ Store 1 0 1 0 0 (1 ∷ []) ∷ Meminfo
    ∷ Fork 1 3 ∷ Attach 3 ∷ Stat 2 (97 ∷ []) ∷ Meminfo ∷ Load 3 0 1 0 0 1 ∷ Mount 3 (codes "min_size=1K") ∷ Df 3 ∷ Meminfo ∷ [])
    ≡ Ok (Number 4) ∷ Ok Done ∷ Ok Done ∷ Ok Done ∷ Ok Done ∷ Ok (MapNo 1) ∷ Ok (MapNo 1) ∷ Ok Done ∷ counts 4 3 1 0 4 0
    ∷ Err OutOfMemory ∷ Err NoSuchTask ∷ Ok (StatAnswer 1 0 0 1) ∷ counts 4 3 1 0 4 0 ∷ Err NoSuchTask ∷ Err OutOfMemory ∷ Err NoSuchSlot ∷ counts 4 3 1 0 4 0 ∷ []
fork_undone = refl
