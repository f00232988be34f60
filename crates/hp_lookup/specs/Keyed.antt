-- What files and maps are called. No public clause cites this module.
use Rattle.std.specs.Prelude.{◌≡◌, ℕ, ◌≤◌, ◌&&◌, ◌||◌, ◌==◌, Bool, true, false, is_some, nat_lt, Option, None, Some, List, length, map}
use Rattle.std.specs.List.{All, count_by, filter, sum_by}
use Rattle.std.specs.Str.{bytes_eq}
use Rattle.hp_model.specs.files.Mapping.{Mapping, is_of}
use Rattle.hp_lookup.specs.Numbered.{NumberedFile}

-- a file's name, and the task and number of each of its maps
pub record Label : Type 0 where
  pub name : Option (List ℕ)
  pub keys : List (ℕ × ℕ)

abbrev pub key_of : Mapping ℕ → ℕ × ℕ
key_of m = (m.task, m.number)

abbrev pub label_of : NumberedFile → Label
label_of f = record { name = f.name; keys = map key_of f.maps }

abbrev pub labels_of : List NumberedFile → List Label
labels_of fs = map label_of fs

abbrev pub is_name_of : List ℕ → Option (List ℕ) → Bool
is_name_of name None = false
is_name_of name (Some n) = bytes_eq n name

abbrev pub is_key : (task number : ℕ) → ℕ × ℕ → Bool
is_key task number k = (k.0 == task) && (k.1 == number)

abbrev pub has_label : List ℕ → Label → Bool
has_label name l = is_name_of name l.name

abbrev pub keys_in : (task number : ℕ) → Label → ℕ
keys_in task number l = count_by (is_key task number) l.keys

-- the numbers of a task's maps
abbrev pub numbers_in : ℕ → List (Mapping ℕ) → List ℕ
numbers_in task ms = map (λ m. m.number) (filter (is_of task) ms)

abbrev pub tasks_in : Label → List ℕ
tasks_in l = map (λ k. k.0) l.keys

-- how many of them are a task's
abbrev pub maps_for : ℕ → Label → ℕ
maps_for task l = count_by (λ (k : ℕ × ℕ). k.0 == task) l.keys

-- a file without a name and without maps is gone
abbrev pub is_listed : Label → Bool
is_listed l = is_some l.name || nat_lt 0 (length l.keys)

-- no file is gone, no two have one name, nor two maps one task and number; and so many maps there are, and so many of each task
pub record IsKeyed (maps : ℕ) (tally : ℕ → ℕ) (ls : List Label) : Type 0 where
  pub kept : All (λ (l : Label). is_listed l ≡ true) ls
  pub names : (name : List ℕ) → count_by (has_label name) ls ≤ 1
  pub keys : (task number : ℕ) → sum_by (keys_in task number) ls ≤ 1
  pub map_count : maps ≡ sum_by (λ (l : Label). length l.keys) ls
  pub tallied : (task : ℕ) → tally task ≡ sum_by (maps_for task) ls
