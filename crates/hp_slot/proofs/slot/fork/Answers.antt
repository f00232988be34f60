use Rattle.std.proofs.Common.{Some, sym, subst}
use Rattle.hp_model.proofs.Words.{Choice, Slot, done_reply, slot_event}
use Rattle.hp_model.specs.declared.event.SlotEvent.TheVariants.{ForkMaps}
use Rattle.hp_mount_laws.specs.Done.{IsDone}
use Rattle.hp_slot.proofs.Asking.{as_noted}
use Rattle.hp_slot.proofs.slot.fork.Goals as goal

pub returns-clause-done : goal.returns-clause-done
returns-clause-done g c = λ size k.
    let did = c.fork_maps in
    let old : Slot = Some c.in-Some.mount in
    let e = ForkMaps c.args.parent c.args.child in
    subst (λ (s : Slot). IsDone g.D.PoolDoor.took (λ d. ⊥) size k s c.args.door.now e (done_reply did.result) (Some did.new.self) did.new.door) (sym c.in-Some.is)
    (as_noted g.D.PoolDoor.took g.D.PoolDoor.is_full (λ d. ⊥) (λ (x : Choice). slot_event size k x old e) old (Some did.new.self) c.args.door.now did.new.door (done_reply did.result)
    did.ensures.noted (did.ensures.done size k))
