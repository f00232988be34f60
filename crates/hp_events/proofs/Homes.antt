-- What a task's home does not change of an event.
use Rattle.std.proofs.Common.{ℕ}
use Rattle.hp_laws.proofs.Variants.{Answer, SlotEvent}
use Rattle.hp_model.specs.declared.event.SlotEvent.TheVariants as slot
use Rattle.hp_events.specs.Event.{with_home}
use Rattle.hp_events.specs.Fitting.{HasAnswerOf}

-- how it is answered
pub homed_answer : (h : ℕ) (e : SlotEvent) (a : Answer) → HasAnswerOf (with_home h e) a → HasAnswerOf e a
homed_answer h (slot.Map task home name a pages sharing reserving) x has = has
homed_answer h (slot.Anon task home pages sharing reserving) x has = has
homed_answer h (slot.Fault task home map i intent) x has = has
homed_answer h (slot.Load task home map i offset count) x has = has
homed_answer h (slot.Store task home map i offset bytes) x has = has
homed_answer h other x has = has
