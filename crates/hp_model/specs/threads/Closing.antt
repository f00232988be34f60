-- Entries that take away what is there: a trail keeps places for these, which no other entry takes.
use Rattle.std.specs.Prelude.{◌≡◌, ℕ, ◌+◌, ◌≤◌, ◌<◌, Bool, true, false, None, Some, List, length, map, nat_lt}
use Rattle.std.specs.List.{slice_index_or, sum}
use Rattle.hp_model.specs.declared.entry.PoolEntry.{PoolEntry}
use Rattle.hp_model.specs.declared.entry.PoolEntry.TheVariants.{OfPool, OfSlot}
use Rattle.hp_model.specs.machine.SlotEvent.{SlotEvent}
use Rattle.hp_model.specs.declared.event.SlotEvent.TheVariants.{ExitMaps}
use Rattle.hp_model.specs.declared.event.TableEvent.{TableEvent}
use Rattle.hp_model.specs.declared.event.TableEvent.TheVariants.{Remove}
use Rattle.hp_model.specs.declared.section.Section.{Section}
use Rattle.hp_model.specs.declared.section.Section.TheVariants.{GiveBack}
use Rattle.hp_model.specs.files.MakeMap.{tasks_of}
use Rattle.hp_model.specs.machine.Event.{has_maps_of}
use Rattle.hp_model.specs.machine.Plan.{Slot}
use Rattle.hp_model.specs.machine.Table.{Table, is_known}
use Rattle.hp_model.specs.pool.NodeRows.{used as row_used}
use Rattle.hp_model.specs.pool.PoolCounts.{Pool, used}

-- ---- which entries these are

-- a task that is there goes
abbrev pub removes_task : Table → TableEvent → Bool
removes_task table (Remove task) = is_known table task
removes_task table other = false

-- the maps of a task go, which has some on the slot
abbrev pub removes_maps : Slot → SlotEvent → Bool
removes_maps slot (ExitMaps task) = has_maps_of task slot
removes_maps slot other = false

-- pages or commitments go back
abbrev pub gives_back : Section → Bool
gives_back (GiveBack puts k) = nat_lt 0 (sum puts + k)
gives_back other = false

abbrev pub is_giving_back : PoolEntry → Bool
is_giving_back (OfSlot s a) = gives_back s
is_giving_back (OfPool e r) = false

-- ---- how many of them may yet follow one another

abbrev pub to_remove : Table → ℕ
to_remove table = length table

-- the tasks that have maps
abbrev pub to_exit : Slot → ℕ
to_exit None = 0
to_exit (Some m) = length (tasks_of m)

-- what is committed, and the pages in use
abbrev pub to_return : Pool → ℕ
to_return p = p.committed + used p

-- what goes back is in use at its node, and committed beside the pages that stay in use
pub record IsInUse (puts : List ℕ) (k : ℕ) (p : Pool) : Type 0 where
  pub pages : (n : ℕ) → slice_index_or puts n 0 ≤ slice_index_or (map row_used p.nodes.rows) n 0
  pub committed : used p + k ≤ p.committed + sum puts

abbrev pub GivesWhatIsInUse : Pool → PoolEntry → Type 0
GivesWhatIsInUse p (OfSlot (GiveBack puts k) a) = IsInUse puts k p
GivesWhatIsInUse p other = Unit {0}

-- An entry that leaves so many that may follow, of `before`, where `most` places are kept for them: no more than these are
-- left to come, and one less than before where the entry is one of them itself. So there is a place for each of them, as long
-- as an entry of another kind is added only where more than these places are left.
pub record KeepsPlaces (most before after : ℕ) (is_one : Bool) : Type 0 where
  pub enough : after ≤ most
  pub less : is_one ≡ true → after < before
