use Rattle.std.proofs.Common.{Ok, Some, sym, subst}
use Rattle.hp_model.specs.declared.answer.Answer.TheVariants.{Done}
use Rattle.hp_model.specs.declared.event.SlotEvent.TheVariants.{ExitMaps}
use Rattle.hp_model.proofs.Words.{Slot}
use Rattle.hp_mount_laws.specs.Done.{IsDone}
use Rattle.hp_slot.proofs.slot.leave.Goals as goal

pub returns-clause-done : goal.returns-clause-done
returns-clause-done g c = λ size k.
    let did = c.exit_maps in
    subst (λ (s : Slot). IsDone g.D.PoolDoor.took (λ d. ⊥) size k s c.args.door.now (ExitMaps c.args.task) (Ok Done) (Some did.new.self) did.new.door) (sym c.in-Some.is)
    (did.ensures.done size k)
