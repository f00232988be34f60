-- An event that asks nothing of the pool.
use Rattle.std.specs.Prelude.{◌≡◌, ℕ}
use Rattle.hp_model.specs.machine.SlotEvent.{SlotEvent}
use Rattle.hp_model.specs.machine.Event.{IsFresh}
use Rattle.hp_model.specs.threads.LocalRun.{Gives}
use Rattle.hp_model.specs.machine.Plan.{Choice, Finish, Outcome, Plan, Reply, Slot}
use Rattle.hp_model.specs.machine.SlotEvent.{slot_event}

-- a plan that ends at once, with some fresh stamp
pub record EndsAtOnce (plan : Choice → Plan) (old : Slot) (reply : Reply) (new : Slot) : Type 0 where
  pub choice : Choice
  pub fresh : IsFresh choice old
  pub outcome : Outcome
  pub ends : plan choice ≡ Finish outcome
  pub gives : Gives outcome old reply new

-- an event of the slot of number k
abbrev pub IsDoneAlone : (size k : ℕ) → (old : Slot) → SlotEvent → Reply → (new : Slot) → Type 0
IsDoneAlone size k old e reply new = EndsAtOnce (λ c. slot_event size k c old e) old reply new
