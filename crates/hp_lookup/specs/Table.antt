-- A slot's tasks with the numbers of their maps. No public clause cites this module.
use Rattle.std.specs.Prelude.{◌≡◌, ℕ, ◌+◌, ◌<◌, ◌≤◌, ◌==◌, ◌&&◌, ◌||◌, Bool, false, true, not, List, [], ◌∷◌, length, if◌then◌else◌}
use Rattle.std.specs.List.{slice_index, slice_index_or}
use Rattle.std.specs.List.Sorted.{IsStrictlyIncreasing}
use Rattle.hp_model.specs.Lists.{is_among}

-- the tasks that have maps, the numbers of the maps of each, and for how many more tasks there is room
pub record TaskNumbers : Type 0 where
  pub tasks : List ℕ
  pub maps : List (List ℕ)
  pub room : ℕ

abbrev pub numbers_under : ℕ → List ℕ → List (List ℕ) → List ℕ
numbers_under task [] ms = []
numbers_under task (t ∷ ts) [] = []
numbers_under task (t ∷ ts) (ns ∷ ms) = if t == task then ns else numbers_under task ts ms

-- the numbers of a task's maps
abbrev pub numbers_at : ℕ → TaskNumbers → List ℕ
numbers_at task t = numbers_under task t.tasks t.maps

-- numbers from 1 on that rise
pub record AreNumbers (numbers : List ℕ) : Type 0 where
  pub rise : IsStrictlyIncreasing numbers
  pub from : 0 < length numbers → 1 ≤ slice_index numbers 0

-- tasks that rise, each with a number at least
pub record IsTable (tasks : List ℕ) (maps : List (List ℕ)) : Type 0 where
  pub rise : IsStrictlyIncreasing tasks
  pub each : length maps ≡ length tasks
  pub some : (i : ℕ) → i < length maps → 0 < length (slice_index_or maps i [])

-- a number stands there
pub record IsPlace (numbers : List ℕ) (number at : ℕ) : Type 0 where
  pub within : at < length numbers
  pub there : slice_index numbers at ≡ number

-- lesser numbers stand before the place, and greater ones from it on
pub record IsGap (numbers : List ℕ) (number at : ℕ) : Type 0 where
  pub within : at ≤ length numbers
  pub before : (k : ℕ) → k < at → slice_index numbers k < number
  pub behind : (k : ℕ) → at ≤ k → k < length numbers → number < slice_index numbers k

-- each task has the same numbers
abbrev pub AreLike : TaskNumbers → TaskNumbers → Type 0
AreLike old new = (t : ℕ) → numbers_at t new ≡ numbers_at t old

-- the same, but one task has these
abbrev pub IsWith : (task : ℕ) → (numbers : List ℕ) → TaskNumbers → TaskNumbers → Type 0
IsWith task numbers old new = (t : ℕ) → numbers_at t new ≡ (if task == t then numbers else numbers_at t old)

-- a number more, or less
pub record IsMoreBy (number : ℕ) (old new : List ℕ) : Type 0 where
  pub among : (n : ℕ) → is_among n new ≡ (number == n || is_among n old)
  pub longer : is_among number old ≡ false → length new ≡ length old + 1

pub record IsLessBy (number : ℕ) (old new : List ℕ) : Type 0 where
  pub among : (n : ℕ) → is_among n new ≡ (not (number == n) && is_among n old)
  pub shorter : is_among number old ≡ true → length new + 1 ≡ length old

-- a task has a number more, and the others have the same
pub record IsNotedIn (task number : ℕ) (old new : TaskNumbers) : Type 0 where
  pub others : (t : ℕ) → (task == t) ≡ false → numbers_at t new ≡ numbers_at t old
  pub own : IsMoreBy number (numbers_at task old) (numbers_at task new)

-- a task has a number less, and there is no less room
pub record IsForgottenIn (task number : ℕ) (old new : TaskNumbers) : Type 0 where
  pub others : (t : ℕ) → (task == t) ≡ false → numbers_at t new ≡ numbers_at t old
  pub own : IsLessBy number (numbers_at task old) (numbers_at task new)
  pub room : old.room ≤ new.room

-- a task has no number, and there is no less room
pub record IsGoneIn (task : ℕ) (old new : TaskNumbers) : Type 0 where
  pub with : IsWith task [] old new
  pub room : old.room ≤ new.room
