-- What a load, a store and a fault are answered.
use Rattle.std.specs.Prelude.{◌≡◌}
use Rattle.hp_model.specs.declared.answer.Answer.{Answer}
use Rattle.hp_model.specs.declared.answer.Answer.TheVariants.{Bytes, Done}
use Rattle.hp_model.specs.machine.SlotEvent.{SlotEvent}
use Rattle.hp_model.specs.declared.event.SlotEvent.TheVariants as slot

abbrev pub IsBytes : Answer → Type 0
IsBytes (Bytes count bytes) = Unit {0}
IsBytes other = ⊥

-- a load is answered bytes, and a store or a fault that it is done
abbrev pub HasAnswerOf : SlotEvent → Answer → Type 0
HasAnswerOf (slot.Load task home number i offset count) a = IsBytes a
HasAnswerOf (slot.Store task home number i offset bytes) a = a ≡ Done
HasAnswerOf (slot.Fault task home number i intent) a = a ≡ Done
HasAnswerOf other a = Unit {0}
