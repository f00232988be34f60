-- The task table as it is kept.
use Rattle.std.specs.Prelude.{◌≡◌, ℕ, ◌*◌, ◌%◌, ◌/◌, ◌^◌, ◌<◌, ◌≤◌, ◌==◌, Bool, false, bit_xor, Ok, List, [], ◌∷◌, length, Option, None, Some}
use Rattle.std.specs.List.{count_by, filter_map, slice_index_or}
use Rattle.std.specs.List.Sorted.{IsNonDecreasing}
use Rattle.hp_model.specs.declared.answer.Answer.TheVariants.{Done}
use Rattle.hp_model.specs.declared.refusal.Refusal.TheVariants.{TaskExists, TooMany}
use Rattle.hp_model.specs.machine.Plan.{Reply}
use Rattle.hp_model.specs.machine.Table.{Table, added, is_crowded, is_known, or_refused}
use Rattle.hp_model.specs.Profile.{most_tasks}

-- no task is there twice
abbrev pub HasEachOnce : Table → Type 0
HasEachOnce tasks = (task : ℕ) → count_by (λ e. e.0 == task) tasks ≤ 1

-- a task is added where it is not there and there is room for it, and else refused
abbrev pub add_new : Table → (task home : ℕ) → Reply × Table
add_new table task home = or_refused ((is_known table task, TaskExists) ∷ (is_crowded table, TooMany) ∷ []) table (Ok Done, added table task home)

-- a task with its home, or a gap
abbrev pub TaskRow : Type 0
TaskRow = Option (ℕ × ℕ)

abbrev pub task_row_at : List TaskRow → ℕ → TaskRow
task_row_at slots at = slice_index_or slots at None

-- the tasks, without the gaps
abbrev pub tasks_in : List TaskRow → Table
tasks_in slots = filter_map (λ slot. slot) slots

abbrev pub has_task : ℕ → TaskRow → Bool
has_task task None = false
has_task task (Some e) = e.0 == task

-- tasks' numbers are told apart by so many rests
abbrev pub rests : ℕ
rests = 8 * most_tasks

-- numbers that don't fall, with a place for each, in room for all tasks
pub record IsOrdered (tasks : List ℕ) (stands tasks_capacity stands_capacity : ℕ) : Type 0 where
  pub rise : IsNonDecreasing tasks
  pub each : stands ≡ length tasks
  pub room : most_tasks ≤ tasks_capacity
  pub stands_room : most_tasks ≤ stands_capacity

pub record IsPlaceOf (tasks : List ℕ) (task at : ℕ) : Type 0 where
  pub within : at < length tasks
  pub there : slice_index_or tasks at 0 ≡ task

-- no greater number stands before it, and no smaller one from it on
pub record IsPlaceFor (tasks : List ℕ) (task at : ℕ) : Type 0 where
  pub within : at ≤ length tasks
  pub before : (k : ℕ) → k < at → slice_index_or tasks k 0 ≤ task
  pub behind : (k : ℕ) → at ≤ k → k < length tasks → task ≤ slice_index_or tasks k 0

-- a number's product with an odd constant, in 64 bits
abbrev pub spread : ℕ → ℕ
spread n = n * 11400714819323198485 % 2 ^ 64

-- which number stands for a task's: the upper bits of such a product, of such a product whose upper half is joined to its lower one
unfoldable pub task_rest : ℕ → ℕ
task_rest task = spread (bit_xor (spread task) (spread task / 2 ^ 32)) / 2 ^ 49

abbrev pub has_rest : ℕ → TaskRow → Bool
has_rest rest None = false
has_rest rest (Some e) = task_rest e.0 == rest

-- a task that is not among these numbers stands at the place of its rest
abbrev pub AreNoted : List TaskRow → (places order : List ℕ) → Type 0
AreNoted slots places order =
    (at : ℕ) (e : ℕ × ℕ) → task_row_at slots at ≡ Some e → count_by (λ n. n == e.0) order ≡ 0 → slice_index_or places (task_rest e.0) 0 ≡ at

-- of those that are not among these numbers no two have one rest
abbrev pub IsAlone : List TaskRow → (order : List ℕ) → Type 0
IsAlone slots order =
    (at : ℕ) (e : ℕ × ℕ) → task_row_at slots at ≡ Some e → count_by (λ n. n == e.0) order ≡ 0
    → (beside : ℕ) (f : ℕ × ℕ) → task_row_at slots beside ≡ Some f → count_by (λ n. n == f.0) order ≡ 0
    → task_rest e.0 ≡ task_rest f.0 → at ≡ beside

-- each task once, in room for twice as many slots as there may be tasks; numbers in order are of tasks that are there
pub record IsTaskTable (slots : List TaskRow) (capacity tasks : ℕ) (places order : List ℕ) : Type 0 where
  pub once : HasEachOnce (tasks_in slots)
  pub room : 2 * most_tasks ≤ capacity
  pub count : tasks ≡ length (tasks_in slots)
  pub listed : (task : ℕ) → count_by (λ n. n == task) order ≤ count_by (λ e. e.0 == task) (tasks_in slots)
  pub noted : AreNoted slots places order
