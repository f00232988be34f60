-- What a session answers to what a step asks.
use Rattle.std.specs.Prelude.{◌≡◌, ◌⊎◌, ℕ, ◌+◌, ◌<◌, ◌≤◌, Bool, true, false, Err, length}
use Rattle.hp_model.specs.declared.refusal.Refusal.TheVariants.{OutOfMemory, TraceFull}
use Rattle.hp_model.specs.machine.Plan.{Reply}
use Rattle.hp_events.specs.declared.work.Work.{Work}
use Rattle.hp_events.specs.Works.{work_carries, work_receipts, work_script}
use Rattle.hp_model.specs.beside.Copying.{has_bytes}
use Rattle.hp_model.specs.machine.SlotEvent.{SlotEvent}
use Rattle.hp_model.specs.machine.Step.{on_slot}
use Rattle.hp_events.specs.Event.{is_of_maps, shows_bytes}
use Rattle.hp_laws.specs.Answers.{lists_names}
use Rattle.hp_model.specs.Profile.{most_bytes}
use Rattle.hp_sessions.specs.Calls.{Carries, SessionView}

-- a slot may be asked this by itself, with room for so many bytes: no list of names, and nothing that goes by a task's maps
pub record IsPlain (e : SlotEvent) (size : ℕ) : Type 0 where
  pub room : shows_bytes e ≡ true → most_bytes ≤ size
  pub apart : lists_names e ≡ false
  pub always : is_of_maps e ≡ false

-- there is no room for the receipts, or no memory for a copy of what it carries
abbrev pub IsRefusedWork : SessionView → Work → Reply → Type 0
IsRefusedWork s w reply =
    ((reply ≡ Err TraceFull) × (s.room < length s.receipts + work_receipts s.slots w))
    ⊎ ((reply ≡ Err OutOfMemory) × (work_carries w ≡ true))

-- carried out; or refused before the first event, which is told of where entries are kept
abbrev pub IsWorked : (kept : Bool) (size : ℕ) → SessionView → Work → Reply → SessionView → Type 0
IsWorked kept size s w reply t =
    (((kept ≡ true → length s.receipts + work_receipts s.slots w ≤ s.room) × Carries kept size s (work_script s.slots w) reply t)
    ⊎ ((kept ≡ true) × (t ≡ s) × IsRefusedWork s w reply))

-- the same of what is asked of a slot, once there is room for its receipt
abbrev pub IsAsked : (kept : Bool) (size : ℕ) → SessionView → (slot : ℕ) → SlotEvent → Reply → SessionView → Type 0
IsAsked kept size s slot e reply t =
    Carries kept size s (on_slot s.slots slot e) reply t ⊎ ((kept ≡ true) × (t ≡ s) × (reply ≡ Err OutOfMemory) × (has_bytes e ≡ true))
