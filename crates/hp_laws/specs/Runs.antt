-- What is promised of each event of a run, as the one run of all sessions is one.
use Rattle.std.specs.Prelude.{ℕ, ◌+◌, ◌<◌, ◌≤◌, None, List, [], ◌∷◌, length}
use Rattle.hp_model.specs.declared.event.Event.{Event}
use Rattle.hp_model.specs.declared.event.Event.TheVariants.{Tasks, Slot as OnSlot, Pool as OnPool}
use Rattle.hp_model.specs.declared.event.SlotEvent.TheVariants.{Load, Read}
use Rattle.hp_model.specs.declared.step.Step.TheVariants.{Load as LoadStep, Read as ReadStep}
use Rattle.hp_model.specs.machine.Event.{IsEventRun}
use Rattle.hp_model.specs.machine.Machine.{committed_pages, pool_of}
use Rattle.hp_model.specs.machine.Plan.{IsWithinLimit, Reply, slot_usage}
use Rattle.hp_model.specs.machine.Promises.{AnswersWhatWas, least_of}
use Rattle.hp_model.specs.machine.Settled.{AreCounted, IsSettledState}
use Rattle.hp_model.specs.machine.SlotEvent.{SlotEvent}
use Rattle.hp_model.specs.machine.State.{State, slot_at, with_slot}
use Rattle.hp_model.specs.pool.NodeRows.{total_of}

-- a load answers what its map shows in the state just before it, and a read what its file does
abbrev pub ShowsOn : State → (slot : ℕ) → SlotEvent → Reply → State → Type 0
ShowsOn s k (Load task home number i offset count) reply t = AnswersWhatWas s (LoadStep task k number i offset count) reply t
ShowsOn s k (Read name i offset count) reply t = AnswersWhatWas s (ReadStep k name i offset count) reply t
ShowsOn s k other reply t = Unit {0}

abbrev pub ShowsWhatIs : State → Event → Reply → State → Type 0
ShowsWhatIs s (Tasks e) reply t = Unit {0}
ShowsWhatIs s (OnSlot k e) reply t = ShowsOn s k e reply t
ShowsWhatIs s (OnPool e) reply t = Unit {0}

pub record IsPromisedEvent (s : State) (e : Event) (reply : Reply) (t : State) : Type 0 where
  -- Total, Free, Rsvd and Surp are those of the sums over files and maps, and each promised page is free
  pub counts : AreCounted t
  -- an event that raises what a mount uses ends within the mount's limit
  pub limits : (slot : ℕ) → slot < length s.slots → slot_usage (slot_at s slot) < slot_usage (slot_at t slot) → IsWithinLimit (slot_at t slot)
  -- the pool has the pages of each mount's minimum, beside all that is committed to the other mounts
  pub minimums : (slot : ℕ) → least_of (slot_at t slot) + committed_pages (with_slot t slot None) ≤ total_of (pool_of t).nodes.rows
  pub shown : ShowsWhatIs s e reply t

abbrev pub ArePromised : (s : State) (es : List (Event × Reply)) (t : State) → IsEventRun s es t → Type 0
ArePromised s [] t run = Unit {0}
ArePromised s (x ∷ es) t run = IsPromisedEvent s x.0 x.1 run.0 × ArePromised run.0 es t run.2

-- each event of a run of a settled machine is as promised
abbrev pub RunsArePromised : Type 0
RunsArePromised = (s : State) (es : List (Event × Reply)) (t : State) → IsSettledState s → (run : IsEventRun s es t) → ArePromised s es t run
