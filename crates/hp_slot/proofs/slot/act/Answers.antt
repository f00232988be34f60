use Rattle.std.proofs.Common.{Err, sym, subst}
use Rattle.hp_model.specs.declared.refusal.Refusal.TheVariants.{NoSuchSlot}
use Rattle.hp_model.proofs.Words.{Slot}
use Rattle.hp_mount_laws.specs.Done.{IsDone}
use Rattle.hp_slot.proofs.Asking.{none_done}
use Rattle.hp_slot.proofs.slot.act.Goals as goal

pub returns-in_default-clause-done : goal.returns-in_default-clause-done
returns-in_default-clause-done g c = λ k.
    let door = c.args.door.now in
    let e = c.args.event.now in
    subst (λ (s : Slot). IsDone g.D.PoolDoor.took g.D.PoolDoor.is_full g.N.Naming.page_bytes k s door e (Err NoSuchSlot) s door) (sym c.in_default.is)
    (none_done g.D.PoolDoor.took g.D.PoolDoor.is_full g.N.Naming.page_bytes k e door c.requires.of_mount)
