-- One slot by itself: a run of its events, with what the pool answered.
use Rattle.std.specs.Prelude.{◌≡◌, ℕ, Option, None, Some, Ok, Err, List, [], ◌∷◌, IsTrue}
use Rattle.hp_model.specs.declared.entry.Asked.{Asked}
use Rattle.hp_model.specs.declared.entry.SlotEntry.{SlotEntry}
use Rattle.hp_model.specs.machine.Event.{IsFresh, is_slot_event}
use Rattle.hp_model.specs.machine.Plan.{Reply, Slot, Outcome, Refused, Answered, Plan, Finish, Ask, Choice}
use Rattle.hp_model.specs.pool.Pool.{Section, PoolAnswer}
use Rattle.hp_model.specs.machine.SlotEvent.{slot_event}

-- the outcome is this reply, and leaves this slot
abbrev pub Gives : Outcome → Slot → Reply → Slot → Type 0
Gives (Refused r) old reply new = (reply ≡ Err r) × (new ≡ old)
Gives (Answered a slot) old reply new = (reply ≡ Ok a) × (new ≡ slot)

-- the plan goes on by these answers of the pool; nr is part of the answer to a mount and a remount alone
abbrev pub Goes : Plan → Option Asked → Slot → Reply → Slot → Type 0
Goes (Finish o) None old reply new = Gives o old reply new
Goes (Finish o) (Some asked) old reply new = ⊥
Goes (Ask sec f) None old reply new = ⊥
Goes (Ask sec f) (Some asked) old reply new = (sec asked.answer.nr ≡ asked.section) × Gives (f asked.answer) old reply new

abbrev pub IsLocalStep : (size slot : ℕ) → Slot → SlotEntry → Slot → Type 0
IsLocalStep size slot old e new =
    IsTrue (is_slot_event old e.event) × (c : Choice) × IsFresh c old × Goes (slot_event size slot c old e.event) e.asked old e.reply new

abbrev pub IsLocalRun : (size slot : ℕ) → Slot → List SlotEntry → Slot → Type 0
IsLocalRun size slot old [] new = old ≡ new
IsLocalRun size slot old (e ∷ es) new = (mid : Slot) × IsLocalStep size slot old e mid × IsLocalRun size slot mid es new

-- ---- an event through a door to the pool

-- `took` says how a door changes by a section and the pool's answer. Where the event asks nothing, the door stays
abbrev pub ThroughDoor : {X : Type 0} → (X → Section → PoolAnswer → X → Type 0) → Plan → (old : Slot) (door : X) → Reply → (new : Slot) (left : X) → Type 0
ThroughDoor took (Finish o) old door reply new left = Gives o old reply new × (left ≡ door)
ThroughDoor took (Ask sec f) old door reply new left = (a : PoolAnswer) × took door (sec a.nr) a left × Gives (f a) old reply new
