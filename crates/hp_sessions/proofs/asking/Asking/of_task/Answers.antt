use Rattle.std.proofs.Common.{◌≡◌, IfOk, Ok, Err, Result, subst}
use Rattle.hp_laws.proofs.Variants.{Refusal, SlotEvent, Told}
use Rattle.hp_model.proofs.Words.{told_answer}
use Rattle.hp_events.specs.Event.{with_home}
use Rattle.hp_events.specs.Fitting.{HasAnswerOf}
use Rattle.hp_events.proofs.Homes.{homed_answer}
use Rattle.hp_sessions.proofs.asking.Asking.of_task.Goals as goal

-- what is answered fits, whatever the task's home
fits_at : (home : _) (e f : SlotEvent) (r : Result Told Refusal) → f ≡ with_home home e → IfOk r (λ t. HasAnswerOf f (told_answer t)) → IfOk r (λ t. HasAnswerOf e (told_answer t))
fits_at home e f (Ok t) is has = homed_answer home e (told_answer t) (subst (λ x. HasAnswerOf x (told_answer t)) is has)
fits_at home e f (Err x) is has = tt

pub returns-in-Ok-find-clause-answer : goal.returns-in-Ok-find-clause-answer
returns-in-Ok-find-clause-answer g c =
    fits_at c.in-Ok-find.home c.args.event c.set_home.new.event c.make_slot.result c.set_home.ensures c.make_slot.ensures.answer
