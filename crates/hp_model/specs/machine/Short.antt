-- What a step asks of the pool and of its mount, and when it may be refused for want of it.
use Rattle.std.specs.Prelude.{Result, ◌≡◌, ℕ, ◌-◌, ◌&&◌, ◌||◌, Bool, true, false, not, Option, None, Some, is_some, Ok, Err, if◌then◌else◌}
use Rattle.hp_model.specs.declared.limits.Limits.{Limits}
use Rattle.hp_model.specs.declared.refusal.Refusal.{Refusal}
use Rattle.hp_model.specs.declared.refusal.Refusal.TheVariants.{MountFull, NoPages}
use Rattle.hp_model.specs.declared.step.Intent.{Intent}
use Rattle.hp_model.specs.declared.step.Intent.TheVariants.{Read, Write}
use Rattle.hp_model.specs.declared.step.Step.{Step}
use Rattle.hp_model.specs.declared.step.Step.TheVariants.{Anon, Fault, Load, Map as MapStep, Mount as MountStep, Preallocate, Remount, Store}
use Rattle.hp_model.specs.files.CopyWrite.{is_held_once}
use Rattle.hp_model.specs.files.File.{File, Mount, cell_at, has_page, new_file}
use Rattle.hp_model.specs.files.MakeMap.{asked}
use Rattle.hp_model.specs.files.Mapping.{Map, copy_of, is_map, is_shared, place_at}
use Rattle.hp_model.specs.files.MountCounts.{committed_of}
use Rattle.hp_model.specs.files.Options.{limits, wanted_of}
use Rattle.hp_model.specs.files.Reserved.{is_reserved}
use Rattle.hp_model.specs.files.Spot.{Spot, spot}
use Rattle.hp_model.specs.machine.Machine.{pool_of}
use Rattle.hp_model.specs.machine.Plan.{Reply, Slot}
use Rattle.hp_model.specs.machine.SlotEvent.{committed_with, file_named, unentered}
use Rattle.hp_model.specs.machine.State.{State, slot_at}
use Rattle.hp_model.specs.machine.Tests.{is_for_pages}
use Rattle.hp_model.specs.pool.Grant.{can_grant, is_full, rise}
use Rattle.hp_model.specs.pool.PoolCounts.{Pool}

-- ---- accesses that ask for no page

-- the owner of a private map has a copy there
abbrev pub owns_copy : Map → ℕ → Bool
owns_copy m i = not (is_shared m.sharing) && (m.owner && is_some (copy_of (place_at m i)))

-- the index is reserved to the map, or an owner writes into its copy
abbrev pub is_backed : Intent → Option Spot → ℕ → Bool
is_backed intent None i = false
is_backed Read (Some s) i = is_reserved s.file s.map i
is_backed Write (Some s) i = is_reserved s.file s.map i || owns_copy s.map i

-- a private map has a page to read there, its own or the file's; or a copy that no other map holds, to write into
abbrev pub has_own : Intent → Spot → ℕ → Bool
has_own Read s i = is_some (copy_of (place_at s.map i)) || has_page (cell_at s.file i)
has_own Write s i = elim (copy_of (place_at s.map i)) [ None ↦ false | Some copy ↦ is_held_once s.file copy.stamp ]

-- the pages that an access asks for
abbrev pub page_for : Intent → Option Spot → ℕ → ℕ
page_for intent None i = 0
page_for intent (Some s) i = if is_backed intent (Some s) i || (not (is_shared s.map.sharing) && has_own intent s i) then 0 else 1

-- ---- what a step asks for

abbrev pub asked_of : Option (ℕ × File) → (File → ℕ) → ℕ
asked_of None pages = 0
asked_of (Some f) pages = pages f.1

-- the pages that it asks its mount for: those that a map reserves, those of indices that a preallocation enters, or the one that an
-- access needs
abbrev pub asks : Mount → Step → ℕ
asks m (MapStep task k name a n sharing reserving) = asked_of (file_named m name) (asked sharing reserving a n)
asks m (Preallocate k name a b) = asked_of (file_named m name) (unentered a b)
asks m (Anon task n sharing reserving) = asked sharing reserving 0 n (new_file None)
asks m (Fault task k number i intent) = page_for intent (spot m (is_map task number)) i
asks m (Load task k number i offset count) = page_for Read (spot m (is_map task number)) i
asks m (Store task k number i offset bytes) = page_for Write (spot m (is_map task number)) i
asks m step = 0

-- so many are past the mount's limit; or they are within it, and the pool cannot commit what they raise
abbrev pub IsShort : Pool → Mount → (pages : ℕ) → Refusal → Type 0
IsShort p m pages MountFull = is_full m pages ≡ true
IsShort p m pages NoPages = (is_full m pages ≡ false) × (can_grant (rise m pages) p ≡ false)
IsShort p m pages other = Unit {0}

abbrev pub IsShortOn : Pool → Slot → Step → Refusal → Type 0
IsShortOn p None step r = is_for_pages r ≡ false
IsShortOn p (Some m) step r = IsShort p m (asks m step) r

-- a mount is short where the pool cannot commit its minimum
abbrev pub IsMountShort : Pool → Result Limits Refusal → Refusal → Type 0
IsMountShort p (Ok l) NoPages = can_grant l.min p ≡ false
IsMountShort p l r = is_for_pages r ≡ false

-- a remount is short where the pool cannot commit what its minimum adds
abbrev pub IsRemountShort : Pool → Mount → Result Limits Refusal → Refusal → Type 0
IsRemountShort p m (Ok l) NoPages = can_grant (committed_with m l.min - committed_of m) p ≡ false
IsRemountShort p m l r = is_for_pages r ≡ false

abbrev pub IsRemountShortOn : Pool → Slot → Result Limits Refusal → Refusal → Type 0
IsRemountShortOn p None l r = is_for_pages r ≡ false
IsRemountShortOn p (Some m) l r = IsRemountShort p m l r

-- a step that is refused for want of pages lacks what it asks for
abbrev pub MeetsShortage : State → Step → Reply → Type 0
MeetsShortage s step (Ok a) = Unit {0}
MeetsShortage s (MountStep k options) (Err r) = IsMountShort (pool_of s) (limits s.nr s.page_size (wanted_of options)) r
MeetsShortage s (Remount k options) (Err r) =
    IsRemountShortOn (pool_of s) (slot_at s k) (limits s.nr s.page_size (wanted_of options)) r
MeetsShortage s (MapStep task k name a n sharing reserving) (Err r) =
    IsShortOn (pool_of s) (slot_at s k) (MapStep task k name a n sharing reserving) r
MeetsShortage s (Preallocate k name a b) (Err r) = IsShortOn (pool_of s) (slot_at s k) (Preallocate k name a b) r
MeetsShortage s (Anon task n sharing reserving) (Err r) = IsShortOn (pool_of s) (slot_at s 0) (Anon task n sharing reserving) r
MeetsShortage s (Fault task k number i intent) (Err r) = IsShortOn (pool_of s) (slot_at s k) (Fault task k number i intent) r
MeetsShortage s (Load task k number i offset count) (Err r) =
    IsShortOn (pool_of s) (slot_at s k) (Load task k number i offset count) r
MeetsShortage s (Store task k number i offset bytes) (Err r) =
    IsShortOn (pool_of s) (slot_at s k) (Store task k number i offset bytes) r
MeetsShortage s step (Err r) = is_for_pages r ≡ false

-- a page could be had for the slot: it is within the mount's limit, and the pool can commit it
abbrev pub can_have_page : Pool → Slot → Bool
can_have_page p None = false
can_have_page p (Some m) = not (is_full m 1) && can_grant (rise m 1) p
