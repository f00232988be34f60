-- The tests of a step, in their order: refusals that want for neither pages nor memory.
use Rattle.std.specs.Prelude.{◌≡◌, ◌⊎◌, ℕ, ◌&&◌, ◌==◌, Bool, true, false, not, Option, None, Some, is_some, Ok, Err, List, Result, [], ◌∷◌, ◌++◌, length, if◌then◌else◌, nat_le, nat_lt}
use Rattle.hp_model.specs.declared.limits.Limits.{Limits}
use Rattle.hp_model.specs.declared.refusal.Refusal.{Refusal}
use Rattle.hp_model.specs.declared.refusal.Refusal.TheVariants.{MountFull, NoPages, NoSuchFile, NoSuchMap, NoSuchNode, NoSuchSlot, NoSuchTask}
use Rattle.hp_model.specs.declared.refusal.Refusal.TheVariants.{OutOfMemory, OutOfRange, SlotTaken, TakenByOwner, TaskExists, TooMany}
use Rattle.hp_model.specs.declared.step.Step.{Step}
use Rattle.hp_model.specs.declared.step.Step.TheVariants.{Anon, Attach, Connect, Create, Df, Exit, Fault, Fork, Load, Ls, Map, Mount as MountStep}
use Rattle.hp_model.specs.declared.step.Step.TheVariants.{Overcommit, Preallocate, Punch, Read, Remount, Stat, Store, Truncate, Umount, Unlink, Unmap}
use Rattle.hp_model.specs.files.File.{Mount}
use Rattle.hp_model.specs.files.Mapping.{copy_of, is_map, is_shared, place_at}
use Rattle.hp_model.specs.files.Options.{limits, wanted_of}
use Rattle.hp_model.specs.files.Spot.{Spot, spot}
use Rattle.hp_model.specs.machine.Plan.{Choice, Reply, Slot}
use Rattle.hp_model.specs.machine.SlotEvent.{anon_tests, byte_tests, create_tests, fault_tests, file_named, is_bad_range, map_tests, preallocate_tests, read_tests, umount_tests}
use Rattle.hp_model.specs.machine.State.{State, slot_at}
use Rattle.hp_model.specs.machine.Table.{home_of, is_crowded, is_known}
use Rattle.hp_model.specs.Profile.{most_file_pages, most_overcommit}

-- a choice that refuses no memory
abbrev pub with_memory : Choice
with_memory = record { stamp = 0; refused = false; after_grant = false }

-- the first test that fails
abbrev pub first_failed : List (Bool × Refusal) → Option Refusal
first_failed [] = None
first_failed (t ∷ ts) = if t.0 then Some t.1 else first_failed ts

-- what is named is there, and then these
abbrev pub if_there : {X : Type 0} → Option X → Refusal → (X → Option Refusal) → Option Refusal
if_there None r f = Some r
if_there (Some x) r f = f x

-- the map is private and marked, and has no copy there
abbrev pub is_cut_off : Option Spot → ℕ → Bool
is_cut_off None i = false
is_cut_off (Some s) i = not (is_shared s.map.sharing) && (s.map.unmapped && not (is_some (copy_of (place_at s.map i))))

abbrev pub cut_off_test : ℕ → Spot → List (Bool × Refusal)
cut_off_test i s = (is_cut_off (Some s) i, TakenByOwner) ∷ []

-- what the options of a mount are refused, by themselves
abbrev pub refused_limits : Result Limits Refusal → Option Refusal
refused_limits (Ok l) = None
refused_limits (Err r) = Some r

-- a remount of this slot, whose options mean these limits
abbrev pub failed_remount : (slot : ℕ) → Result Limits Refusal → Option Refusal
failed_remount slot l = if slot == 0 then Some SlotTaken else refused_limits l

-- a mount on this slot, whose options mean these limits
abbrev pub failed_mount : (old : Slot) → Result Limits Refusal → Option Refusal
failed_mount (Some m) l = Some SlotTaken
failed_mount None l = refused_limits l

-- of a step on a slot with this mount, once its task is found
abbrev pub failed_on : (size : ℕ) → Mount → Step → Option Refusal
failed_on size m (Umount k) = first_failed (umount_tests k m)
failed_on size m (Create k name) = first_failed (create_tests with_memory m name)
failed_on size m (Unlink k name) = if_there (file_named m name) NoSuchFile (λ f. None)
failed_on size m (Truncate k name n) = if_there (file_named m name) NoSuchFile (λ f. first_failed ((nat_lt most_file_pages n, OutOfRange) ∷ []))
failed_on size m (Punch k name a b) = if_there (file_named m name) NoSuchFile (λ f. first_failed ((is_bad_range a b, OutOfRange) ∷ []))
failed_on size m (Preallocate k name a b) = if_there (file_named m name) NoSuchFile (λ f. first_failed (preallocate_tests a b))
failed_on size m (Read k name i offset count) = if_there (file_named m name) NoSuchFile (λ f. first_failed (read_tests size i offset count f.1))
failed_on size m (Stat k name) = if_there (file_named m name) NoSuchFile (λ f. None)
failed_on size m (Map task k name a n sharing reserving) = if_there (file_named m name) NoSuchFile (λ f. first_failed (map_tests m task a n))
failed_on size m (Anon task n sharing reserving) = first_failed (anon_tests m task n)
failed_on size m (Unmap task k number a b) = if_there (spot m (is_map task number)) NoSuchMap (λ s. first_failed ((is_bad_range a b, OutOfRange) ∷ []))
failed_on size m (Fault task k number i intent) = if_there (spot m (is_map task number)) NoSuchMap (λ s. first_failed (fault_tests i s ++ cut_off_test i s))
failed_on size m (Load task k number i offset count) =
    if_there (spot m (is_map task number)) NoSuchMap (λ s. first_failed (byte_tests size i offset count s ++ cut_off_test i s))
failed_on size m (Store task k number i offset bytes) =
    if_there (spot m (is_map task number)) NoSuchMap (λ s. first_failed (byte_tests size i offset (length bytes) s ++ cut_off_test i s))
failed_on size m step = None

abbrev pub failed_at : State → ℕ → Step → Option Refusal
failed_at s k step = if_there (slot_at s k) NoSuchSlot (λ m. failed_on s.page_size m step)

-- first the task is found
abbrev pub failed_by : State → (task : ℕ) → ℕ → Step → Option Refusal
failed_by s task k step = if_there (home_of s.table task) NoSuchTask (λ home. failed_at s k step)

-- the refusal of the first test that the step fails
abbrev pub failed : State → Step → Option Refusal
failed s (Connect task home) = first_failed ((nat_le (length s.nodes) home, NoSuchNode) ∷ (is_known s.table task, TaskExists) ∷ (is_crowded s.table, TooMany) ∷ [])
failed s (Attach task) = if_there (home_of s.table task) NoSuchTask (λ home. None)
failed s (Fork parent child) =
    if_there (home_of s.table parent) NoSuchTask (λ home. first_failed ((is_known s.table child, TaskExists) ∷ (is_crowded s.table, TooMany) ∷ []))
failed s (Exit task) = if_there (home_of s.table task) NoSuchTask (λ home. None)
failed s (Overcommit n) = first_failed ((not (nat_le n most_overcommit), OutOfRange) ∷ [])
failed s (MountStep k options) =
    if nat_lt k (length s.slots) then failed_mount (slot_at s k) (limits s.nr s.page_size (wanted_of options)) else Some NoSuchSlot
failed s (Remount k options) =
    if_there (slot_at s k) NoSuchSlot (λ m. failed_remount k (limits s.nr s.page_size (wanted_of options)))
failed s (Umount k) = failed_at s k (Umount k)
failed s (Create k name) = failed_at s k (Create k name)
failed s (Unlink k name) = failed_at s k (Unlink k name)
failed s (Truncate k name n) = failed_at s k (Truncate k name n)
failed s (Punch k name a b) = failed_at s k (Punch k name a b)
failed s (Preallocate k name a b) = failed_at s k (Preallocate k name a b)
failed s (Read k name i offset count) = failed_at s k (Read k name i offset count)
failed s (Ls k) = failed_at s k (Ls k)
failed s (Stat k name) = failed_at s k (Stat k name)
failed s (Df k) = failed_at s k (Df k)
failed s (Map task k name a n sharing reserving) = failed_by s task k (Map task k name a n sharing reserving)
failed s (Anon task n sharing reserving) = failed_by s task 0 (Anon task n sharing reserving)
failed s (Unmap task k number a b) = failed_by s task k (Unmap task k number a b)
failed s (Fault task k number i intent) = failed_by s task k (Fault task k number i intent)
failed s (Load task k number i offset count) = failed_by s task k (Load task k number i offset count)
failed s (Store task k number i offset bytes) = failed_by s task k (Store task k number i offset bytes)
failed s step = None

-- a refusal for want of a huge page
abbrev pub is_for_pages : Refusal → Bool
is_for_pages NoPages = true
is_for_pages MountFull = true
is_for_pages other = false

-- answered, or refused for want of a huge page or of memory
abbrev pub is_short : Reply → Bool
is_short (Ok a) = true
is_short (Err OutOfMemory) = true
is_short (Err r) = is_for_pages r

-- refused so, or else for want of pages or memory alone
abbrev pub IsRefusedBy : Option Refusal → Reply → Type 0
IsRefusedBy (Some r) reply = reply ≡ Err r
IsRefusedBy None reply = is_short reply ≡ true

-- a fork that fails none of its tests may be refused too for the maps that a slot would have, of which no more is said
abbrev pub IsForkRefusedBy : Option Refusal → Reply → Type 0
IsForkRefusedBy (Some r) reply = reply ≡ Err r
IsForkRefusedBy None reply = (is_short reply ≡ true) ⊎ (reply ≡ Err TooMany)

-- a step is refused by the first test that it fails; one that fails none is done, if there are pages and memory
abbrev pub MeetsTests : State → Step → Reply → Type 0
MeetsTests s (Fork parent child) reply = IsForkRefusedBy (failed s (Fork parent child)) reply
MeetsTests s step reply = IsRefusedBy (failed s step) reply
