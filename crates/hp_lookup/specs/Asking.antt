-- What a new map asks for, and reservations that are asked for through a door.
use Rattle.std.specs.Prelude.{◌≡◌, ℕ, ◌+◌, ◌<◌, Bool, List, Ok, Err, Result, not}
use Rattle.hp_model.specs.declared.refusal.Refusal.{Refusal}
use Rattle.hp_model.specs.declared.refusal.Refusal.TheVariants.{OutOfMemory}
use Rattle.hp_model.specs.declared.section.PoolAnswer.{PoolAnswer}
use Rattle.hp_model.specs.declared.section.Section.{Section}
use Rattle.hp_model.specs.declared.section.Section.TheVariants.{Grant}
use Rattle.hp_model.specs.declared.step.Reserving.{Reserving}
use Rattle.hp_model.specs.declared.step.Reserving.TheVariants.{Reserve, NoReserve}
use Rattle.hp_model.specs.declared.step.Sharing.{Sharing}
use Rattle.hp_model.specs.declared.step.Sharing.TheVariants.{Shared, Private}
use Rattle.hp_model.specs.files.File.{File}
use Rattle.hp_model.specs.Lists.{is_among, least_unused}
use Rattle.hp_model.specs.files.MakeMap.{asked, mapped, numbers_of}
use Rattle.hp_model.specs.pool.Pool.{granted_at, no_pages}
use Rattle.hp_mount_door.specs.Door.{IsDoorRefusal, with_reserves}
use Rattle.hp_subpool.specs.Subpool.{Subpool, rise}
use Rattle.hp_lookup.specs.declared.next_map.MapRange.{MapRange}
use Rattle.hp_lookup.specs.Places.{all_maps, all_tasks}

-- the first index that a map of n from a on enters; only a shared one that reserves enters any
abbrev pub entered_from : Sharing → Reserving → (a n : ℕ) → ℕ
entered_from Shared Reserve a n = a
entered_from Shared NoReserve a n = a + n
entered_from Private reserving a n = a + n

-- how many pages a map of a range of the file asks for
abbrev pub wants : MapRange → File → ℕ
wants range f = asked range.sharing range.reserving range.start range.pages f

-- the file with a map of the range more
abbrev pub with_range : MapRange → (number : ℕ) → File → File
with_range range number f = mapped range.task number range.start range.pages range.sharing range.reserving f

-- the least number that none of the task's maps has
abbrev pub next_of : (task : ℕ) → List File → ℕ
next_of task fs = least_unused (numbers_of task (all_maps fs))

-- the task has no map yet
abbrev pub is_first_of : (task : ℕ) → List File → Bool
is_first_of task fs = not (is_among task (all_tasks fs))

module _ {X : Type 0} (took : X → Section → PoolAnswer → X → Type 0) (full : X → Type 0) (home k : ℕ) (s : Subpool) (d : X) where
  -- k more are granted, by a section where the minimum does not cover them
  pub record IsGranted (new : Subpool) (left : X) : Type 0 where
    pub share : new ≡ with_reserves k s
    pub none : rise s k ≡ 0 → left ≡ d
    pub some : 0 < rise s k → took d (Grant home (rise s k)) (granted_at 0) left

  pub record IsDenied (e : Refusal) (new : Subpool) (left : X) : Type 0 where
    pub share : new ≡ s
    pub some : 0 < rise s k
    pub why : IsDoorRefusal e (took d (Grant home (rise s k)) no_pages left) ((left ≡ d) × full left)

  pub record IsUnasked (new : Subpool) (left : X) : Type 0 where
    pub share : new ≡ s
    pub door : left ≡ d

  -- granted; or for want of memory not asked for; or refused by the door
  abbrev pub IsAsked : Result (Unit {0}) Refusal → (new : Subpool) (left : X) → Type 0
  IsAsked (Ok done) new left = IsGranted new left
  IsAsked (Err OutOfMemory) new left = IsUnasked new left
  IsAsked (Err other) new left = IsDenied other new left
