-- What a step asks of which part.
use Rattle.std.specs.Prelude.{◌≡◌, ℕ, ◌+◌, ◌*◌, Bool, true, false}
use Rattle.hp_model.specs.declared.event.Event.TheVariants.{Pool as OnPool}
use Rattle.hp_model.specs.declared.event.SlotEvent.TheVariants.{Ls as Listing}
use Rattle.hp_model.specs.declared.step.Step.{Step}
use Rattle.hp_model.specs.declared.step.Step.TheVariants as step
use Rattle.hp_model.specs.beside.Copying.{has_bytes}
use Rattle.hp_model.specs.machine.Promises.{takes_memory, is_usage as is_usage_step}
use Rattle.hp_model.specs.machine.State.{State, slot_at}
use Rattle.hp_model.specs.machine.Step.{Script, finding, on_slot, only, script}
use Rattle.hp_model.specs.threads.Telling.{carries_bytes, most_receipts}
use Rattle.hp_laws.specs.Answers.{lists_names}
use Rattle.hp_events.specs.Event.{is_of_maps, is_of_mount, is_usage, with_home}
use Rattle.hp_events.specs.Memory.{asks_memory}
use Rattle.hp_events.specs.declared.work.Work.{Work}
use Rattle.hp_events.specs.declared.work.Work.TheVariants.{Connect, Attach, Pool, Fork, Exit, Ls, OnSlot, OfTask}

-- the step that it stands for
abbrev pub work_script : (slots : ℕ) → Work → Script
work_script n (Connect task home) = script n (step.Connect task home)
work_script n (Attach task) = script n (step.Attach task)
work_script n (Pool e) = only (OnPool e)
work_script n (Fork parent child) = script n (step.Fork parent child)
work_script n (Exit task) = script n (step.Exit task)
work_script n (Ls k) = on_slot n k Listing
work_script n (OnSlot k e) = on_slot n k e
work_script n (OfTask task k e) = finding task (λ home. on_slot n k (with_home home e))

-- the most receipts that it brings
abbrev pub work_receipts : (slots : ℕ) → Work → ℕ
work_receipts n (Fork parent child) = 2 * n + 1
work_receipts n (Exit task) = n + 1
work_receipts n (OfTask task k e) = 2
work_receipts n other = 1

-- it has a name, options or bytes
abbrev pub work_carries : Work → Bool
work_carries (OnSlot k e) = has_bytes e
work_carries (OfTask task k e) = has_bytes e
work_carries other = false

-- a list of names is asked for by `Ls` alone, and what goes by a task's maps by `Fork` and `Exit`
abbrev pub IsPlainWork : Work → Type 0
IsPlainWork (OnSlot k e) = (lists_names e ≡ false) × (is_of_maps e ≡ false)
IsPlainWork (OfTask task k e) = (lists_names e ≡ false) × (is_of_mount e ≡ true)
IsPlainWork other = Unit {0}

-- it answers numbers or names as they stand
abbrev pub is_usage_work : Work → Bool
is_usage_work (Attach task) = true
is_usage_work (Ls k) = true
is_usage_work (OnSlot k e) = is_usage e
is_usage_work other = false

-- it may be refused memory
abbrev pub takes_memory_for : State → Work → Bool
takes_memory_for m (Fork parent child) = true
takes_memory_for m (Ls k) = true
takes_memory_for m (OnSlot k e) = asks_memory (slot_at m k) e
takes_memory_for m (OfTask task k e) = asks_memory (slot_at m k) e
takes_memory_for m other = false

-- the step, by what it asks of which part
pub record IsWork (s : Step) (w : Work) : Type 0 where
  pub script : (n : ℕ) → script n s ≡ work_script n w
  pub receipts : (n : ℕ) → most_receipts n s ≡ work_receipts n w
  pub carries : carries_bytes s ≡ work_carries w
  pub plain : IsPlainWork w
  pub usage : is_usage_step s ≡ is_usage_work w
  pub memory : (m : State) → takes_memory m s ≡ takes_memory_for m w
