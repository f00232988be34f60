-- Maps that leave files with their pages by number. No public clause cites this module.
use Rattle.std.specs.Prelude.{◌≡◌, ℕ, ◌+◌, ◌<◌, ◌≤◌, ◌||◌, ◌==◌, Bool, false, true, not, is_some, slice_set, min, Option, None, Some, List, [], length, map, if◌then◌else◌, nat_lt}
use Rattle.std.specs.List.{count_by, filter, fold, remove, sum_by}
use Rattle.hp_model.specs.files.Mapping.{Mapping, is_mapped, is_map, is_of, is_unconsumed, without_range}
use Rattle.hp_model.specs.files.MountCounts.{is_waiting}
use Rattle.hp_store.specs.Store.{Store}
use Rattle.hp_lookup.specs.Dropping.{IsDropping}
use Rattle.hp_lookup.specs.Held.{in_files, more_in}
use Rattle.hp_lookup.specs.Hints.{IsMore, Noted, has_key, is_noted_as, is_pair, noted_numbers, tally_of}
use Rattle.hp_lookup.specs.Numbered.{NumberedFile, mapping_at, numbered_at, with_truncated}

-- the lesser of a task and one that is known, if any
abbrev pub lesser_task : Option ℕ → ℕ → ℕ
lesser_task None task = task
lesser_task (Some known) task = min known task

-- the least of some tasks and one that is known, if any
abbrev pub least_among : Option ℕ → List ℕ → Option ℕ
least_among known tasks = fold (λ k task. Some (lesser_task k task)) known tasks

-- what a map's owner has reserved and not consumed
abbrev pub owed : Mapping ℕ → ℕ
owed m = if m.owner then count_by is_unconsumed m.places else 0

-- a file's reservations
abbrev pub file_owed : NumberedFile → ℕ
file_owed f = count_by is_waiting f.cells + sum_by owed f.maps

-- how many maps files have
abbrev pub map_sum : List NumberedFile → ℕ
map_sum fs = sum_by (λ (f : NumberedFile). length f.maps) fs

-- it has a name or a map
abbrev pub is_used : NumberedFile → Bool
is_used f = is_some f.name || nat_lt 0 (length f.maps)

-- without name and maps it loses its pages and entries
abbrev pub emptied : NumberedFile → NumberedFile
emptied f = if is_used f then f else with_truncated 0 f

-- the map, without any index if it is the task's
abbrev pub ended_for : ℕ → Mapping ℕ → Mapping ℕ
ended_for task m = if is_of task m then without_range m.start (m.start + length m.places) m else m

-- the file without the maps of a task
abbrev pub left_by : ℕ → NumberedFile → NumberedFile
left_by task f = record f { maps = filter (λ m. not (is_of task m)) f.maps }

-- the file without indices of a map, and without the map if that has none left
abbrev pub cut_map : (task number a b : ℕ) → Mapping ℕ → Mapping ℕ
cut_map task number a b m = if is_map task number m then without_range a b m else m

abbrev pub stays : (task number : ℕ) → Mapping ℕ → Bool
stays task number m = is_mapped m || not (is_map task number m)

abbrev pub left_from : (task number a b : ℕ) → NumberedFile → NumberedFile
left_from task number a b f = record f { maps = filter (stays task number) (map (cut_map task number a b) f.maps) }

-- the file whose map at a place lost indices
abbrev pub cut_at : (map a b : ℕ) → NumberedFile → NumberedFile
cut_at map a b f = record f { maps = slice_set f.maps map (without_range a b (mapping_at f map)) }

-- and is gone if it has none left
abbrev pub left_at : (map a b : ℕ) → NumberedFile → NumberedFile
left_at map a b f =
    let m = without_range a b (mapping_at f map) in
    record f { maps = if is_mapped m then slice_set f.maps map m else remove f.maps map }

-- the files without the one at a place, if that has neither name nor maps
abbrev pub swept_at : ℕ → List NumberedFile → List NumberedFile
swept_at k fs = if is_used (numbered_at fs k) then fs else remove fs k

-- of what was noted the maps of one task are forgotten, or only one map is. Nothing is noted, and there is no less room
pub record IsMoreButMapsOf (task : ℕ) (old new : Noted) : Type 0 where
  pub names : (name : List ℕ) → is_noted_as name new ≡ is_noted_as name old
  pub numbers : (t : ℕ) → noted_numbers t new ≡ (if task == t then [] else noted_numbers t old)
  pub room : old.table.room ≤ new.table.room

pub record IsMoreButMap (task number : ℕ) (old new : Noted) : Type 0 where
  pub names : (name : List ℕ) → is_noted_as name new ≡ false → is_noted_as name old ≡ false
  pub keys : (t n : ℕ) → is_pair t n (task, number) ≡ false → has_key t n new ≡ false → has_key t n old ≡ false
  pub gone : has_key task number new ≡ false
  pub less : IsMore new old
  pub tally : has_key task number old ≡ true → (q : ℕ) → tally_of new q + (if task == q then 1 else 0) ≡ tally_of old q

-- all maps of a task left some files: so many maps and reservations went, and pages of which they were the last holders
pub record HaveMapsLeft (task : ℕ) (files ended : List NumberedFile) (store now : Store) (more maps reserves : ℕ) : Type 0 where
  pub left : ended ≡ map (λ f. emptied (left_by task f)) files
  pub dropping : IsDropping (λ n. in_files n files) (λ n. in_files n ended) store now
  pub counted : more ≡ more_in now.pages
  pub waiting : reserves + sum_by file_owed ended ≡ sum_by file_owed files
  pub gone : maps + map_sum ended ≡ map_sum files
