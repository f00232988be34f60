-- Loads, stores and faults of one slot, done one after another.
use Rattle.std.specs.Prelude.{◌≡◌, ℕ, ◌≤◌, false, List, [], ◌∷◌, length, take, drop, Ok}
use Rattle.hp_model.specs.beside.Queue.{QueuedView}
use Rattle.hp_model.specs.declared.answer.Answer.TheVariants.{Home}
use Rattle.hp_model.specs.declared.entry.Receipt.{Receipt}
use Rattle.hp_model.specs.declared.event.Event.TheVariants.{Tasks as OnTasks, Slot as OnSlot}
use Rattle.hp_model.specs.machine.SlotEvent.{SlotEvent}
use Rattle.hp_model.specs.declared.event.SlotEvent.TheVariants as slot
use Rattle.hp_model.specs.declared.event.TableEvent.TheVariants.{Find}
use Rattle.hp_model.specs.declared.step.Step.{Step}
use Rattle.hp_model.specs.declared.step.Step.TheVariants.{Fault, Load, Store}
use Rattle.hp_model.specs.machine.Plan.{Reply}
use Rattle.hp_events.specs.Answered.{IsHanded}

-- the task is found, and then the event of its slot is answered so
pub record IsFoundAndHanded (size at task : ℕ) (event : ℕ → SlotEvent) (reply : Reply) (was now : List Receipt) : Type 0 where
  pub home : ℕ
  pub between : List Receipt
  pub found : IsHanded false size (OnTasks (Find task)) (Ok (Home home)) was between
  pub handed : IsHanded false size (OnSlot at (event home)) reply between now

-- a load, a store or a fault of this slot is answered so
abbrev pub IsAccessHanded : (size at : ℕ) → Step → Reply → (was now : List Receipt) → Type 0
IsAccessHanded size at (Load task k number i offset count) reply was now =
    (k ≡ at) × IsFoundAndHanded size at task (λ home. slot.Load task home number i offset count) reply was now
IsAccessHanded size at (Store task k number i offset bytes) reply was now =
    (k ≡ at) × IsFoundAndHanded size at task (λ home. slot.Store task home number i offset bytes) reply was now
IsAccessHanded size at (Fault task k number i intent) reply was now =
    (k ≡ at) × IsFoundAndHanded size at task (λ home. slot.Fault task home number i intent) reply was now
IsAccessHanded size at step reply was now = ⊥

-- each of these is answered as is noted
abbrev pub AreAccessesHanded : (size at : ℕ) → (before after : List QueuedView) → (was now : List Receipt) → Type 0
AreAccessesHanded size at [] [] was now = now ≡ was
AreAccessesHanded size at (b ∷ bs) (a ∷ rest) was now =
    (between : List Receipt) × IsAccessHanded size at b.step a.reply was between × AreAccessesHanded size at bs rest between now
AreAccessesHanded size at before after was now = ⊥

-- the first n of a queue are answered so, and the others are as they were
pub record AreFirstHanded (size at n : ℕ) (before after : List QueuedView) (was now : List Receipt) : Type 0 where
  pub few : n ≤ length before
  pub handed : AreAccessesHanded size at (take n before) (take n after) was now
  pub left : drop n after ≡ drop n before
