-- What was noted of files and maps, and what holds of files. No public clause cites this module.
use Rattle.std.specs.Prelude.{◌≡◌, ℕ, ◌+◌, ◌==◌, ◌&&◌, Bool, false, true, if◌then◌else◌, List, length, map}
use Rattle.std.specs.List.{All, count_by, list_any, sum_by}
use Rattle.std.specs.Str.{bytes_eq}
use Rattle.hp_model.specs.Lists.{is_among}
use Rattle.hp_store.specs.Store.{Store}
use Rattle.hp_lookup.specs.Held.{IsHeld}
use Rattle.hp_lookup.specs.Keyed.{IsKeyed, Label, has_label, keys_in, labels_of}
use Rattle.hp_lookup.specs.Level.{AreLevel}
use Rattle.hp_lookup.specs.Numbered.{NumberedFile}
use Rattle.hp_lookup.specs.Table.{TaskNumbers, numbers_at}

-- the names of files that are noted, and the tasks that have maps, with the numbers of these
pub record Noted : Type 0 where
  pub names : List (List ℕ)
  pub table : TaskNumbers

abbrev pub names_of : {X : Type 0} → List (List ℕ × X) → List (List ℕ)
names_of es = map (λ e. e.0) es

abbrev pub is_noted_as : List ℕ → Noted → Bool
is_noted_as name n = list_any (bytes_eq name) n.names

abbrev pub is_pair : (task number : ℕ) → ℕ × ℕ → Bool
is_pair task number k = (task == k.0) && (number == k.1)

-- the numbers of a task's maps
abbrev pub noted_numbers : (task : ℕ) → Noted → List ℕ
noted_numbers task n = numbers_at task n.table

abbrev pub has_key : (task number : ℕ) → Noted → Bool
has_key task number n = is_among number (noted_numbers task n)

-- how many maps a task has
abbrev pub tally_of : Noted → ℕ → ℕ
tally_of n task = length (noted_numbers task n)

-- nothing is forgotten
pub record IsMore (old new : Noted) : Type 0 where
  pub names : (name : List ℕ) → is_noted_as name new ≡ false → is_noted_as name old ≡ false
  pub keys : (task number : ℕ) → has_key task number new ≡ false → has_key task number old ≡ false

-- the same is noted
pub record AreSame (old new : Noted) : Type 0 where
  pub names : (name : List ℕ) → is_noted_as name new ≡ is_noted_as name old
  pub keys : (task number : ℕ) → has_key task number new ≡ has_key task number old
  pub tally : (task : ℕ) → tally_of new task ≡ tally_of old task

-- nothing is forgotten, and nothing else is noted but one name; or but one map
pub record IsMoreByName (name : List ℕ) (old new : Noted) : Type 0 where
  pub more : IsMore old new
  pub names : (other : List ℕ) → bytes_eq name other ≡ false → is_noted_as other old ≡ false → is_noted_as other new ≡ false
  pub keys : (task number : ℕ) → has_key task number old ≡ false → has_key task number new ≡ false
  pub tally : (task : ℕ) → tally_of new task ≡ tally_of old task

pub record IsMoreByMap (task number : ℕ) (old new : Noted) : Type 0 where
  pub more : IsMore old new
  pub names : (name : List ℕ) → is_noted_as name old ≡ false → is_noted_as name new ≡ false
  pub keys : (t n : ℕ) → is_pair t n (task, number) ≡ false → has_key t n old ≡ false → has_key t n new ≡ false
  pub noted : has_key task number new ≡ true
  pub tally : has_key task number old ≡ false → (q : ℕ) → tally_of new q ≡ tally_of old q + (if task == q then 1 else 0)

-- a task has these maps, and nothing else changed
pub record IsCopied (task : ℕ) (numbers : List ℕ) (old new : Noted) : Type 0 where
  pub names : (name : List ℕ) → is_noted_as name new ≡ is_noted_as name old
  pub maps : (t : ℕ) → noted_numbers t new ≡ (if task == t then numbers else noted_numbers t old)

-- one name is forgotten, and nothing else; and nothing is noted
pub record IsMoreBut (name : List ℕ) (old new : Noted) : Type 0 where
  pub gone : is_noted_as name new ≡ false
  pub names : (other : List ℕ) → bytes_eq name other ≡ false → is_noted_as other new ≡ false → is_noted_as other old ≡ false
  pub keys : (task number : ℕ) → has_key task number new ≡ false → has_key task number old ≡ false
  pub less : IsMore new old
  pub tally : (task : ℕ) → tally_of new task ≡ tally_of old task

-- what was never noted is not there, and what is not there is not noted
pub record AreNoted (n : Noted) (ls : List Label) : Type 0 where
  pub names : (name : List ℕ) → is_noted_as name n ≡ false → count_by (has_label name) ls ≡ 0
  pub keys : (task number : ℕ) → has_key task number n ≡ false → sum_by (keys_in task number) ls ≡ 0
  pub no_name : (name : List ℕ) → count_by (has_label name) ls ≡ 0 → is_noted_as name n ≡ false
  pub no_key : (task number : ℕ) → sum_by (keys_in task number) ls ≡ 0 → has_key task number n ≡ false

-- what holds of the files of a mount
pub record IsFiles (n : Noted) (s : Store) (more maps : ℕ) (tally : ℕ → ℕ) (fs : List NumberedFile) : Type 0 where
  pub held : IsHeld s more fs
  pub keyed : IsKeyed maps tally (labels_of fs)
  pub noted : AreNoted n (labels_of fs)
  pub level : All (λ (f : NumberedFile). AreLevel f.maps) fs
