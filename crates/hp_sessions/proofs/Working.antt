-- A step, by what it asks of which part.
use Rattle.std.proofs.Common.{◌≡◌, ℕ, Bool, inl, inr, sym, subst, ◌∙◌}
use Rattle.hp_model.proofs.Words.{Reply, on_slot}
use Rattle.hp_events.specs.declared.work.Work.{Work}
use Rattle.hp_sessions.specs.Calls.{Carries, HasReceiptRoom, SessionView}
use Rattle.hp_events.specs.Works.{work_carries, work_receipts, work_script}
use Rattle.hp_model.specs.beside.Copying.{has_bytes}
use Rattle.hp_model.specs.machine.SlotEvent.{SlotEvent}
use Rattle.hp_sessions.specs.Works.{IsAsked, IsWorked}

-- ---- what is refused before the first event

pub worked : (kept : Bool) (size : ℕ) (s t : SessionView) (w : Work) (reply : Reply) → HasReceiptRoom kept (work_receipts s.slots w) s → Carries kept size s (work_script s.slots w) reply t →
    IsWorked kept size s w reply t
worked kept size s t w reply room c = inl (room, c)

-- what is asked of a slot, by the work that asks it
pub asked_worked : (kept : Bool) (size : ℕ) (s t : SessionView) (k : ℕ) (e : SlotEvent) (w : Work) (reply : Reply) → work_script s.slots w ≡ on_slot s.slots k e →
    work_carries w ≡ has_bytes e → HasReceiptRoom kept (work_receipts s.slots w) s → IsAsked kept size s k e reply t → IsWorked kept size s w reply t
asked_worked kept size s t k e w reply script same room (inl done) = inl (room, subst (λ c. Carries kept size s c reply t) (sym script) done)
asked_worked kept size s t k e w reply script same room (inr refused) = inr (refused.0, refused.1, inr (refused.2, same ∙ refused.3))
