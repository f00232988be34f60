use Rattle.std.proofs.Common.{◌≡◌, ◌==◌, false, Err, Ok, Some, refl, sym, ap, subst, ◌∙◌, arith}
use Rattle.std.proofs.lemmas.Bool.Decides.{nat_tests}
use Rattle.hp_model.proofs.Words.{Slot, done_reply, told_reply}
use Rattle.hp_model.specs.declared.answer.Answer.TheVariants.{Done}
use Rattle.hp_model.specs.declared.event.SlotEvent.TheVariants.{Mount as Mounting, Remount}
use Rattle.hp_model.specs.declared.refusal.Refusal.TheVariants.{NoSuchSlot, SlotTaken}
use Rattle.hp_mount_laws.specs.Done.{IsDone}
use Rattle.hp_slot.proofs.Asking.{asked_as, mount_done}
use Rattle.hp_slot.proofs.Mounts.{limits_first, limits_none}
use Rattle.hp_slot.proofs.slot.ask.Goals as goal

pub returns-in-Mount-clause-done : goal.returns-in-Mount-clause-done
returns-in-Mount-clause-done g c =
    asked_as g.D.PoolDoor.took g.D.PoolDoor.is_full c.args.number c.args.slot.now c.mount.new.slot c.args.door.now c.mount.new.door
    (c.in-Mount.is ∙ ap Mounting (sym c.as_slice.ensures)) c.requires.page_bytes c.done.ensures (c.mount.ensures.done c.args.number)

pub returns-in-None-clause-done : goal.returns-in-None-clause-done
returns-in-None-clause-done g c =
    let door = c.args.door.now in
    asked_as g.D.PoolDoor.took g.D.PoolDoor.is_full c.args.number c.args.slot.now c.args.slot.now door door
    {size = g.N.Naming.page_bytes} {reply = Err NoSuchSlot} c.in-Remount.is refl refl
    (subst (λ (s : Slot). IsDone g.D.PoolDoor.took g.D.PoolDoor.is_full g.N.Naming.page_bytes c.args.number s door (Remount c.in-Remount.options) (Err NoSuchSlot) s door) (sym c.in-None.is)
    (limits_none g.D.PoolDoor.took g.D.PoolDoor.is_full g.N.Naming.page_bytes c.args.number c.in-Remount.options door))

pub returns-then-number-eq0-clause-done : goal.returns-then-number-eq0-clause-done
returns-then-number-eq0-clause-done g c =
    let door = c.args.door.now in
    asked_as g.D.PoolDoor.took g.D.PoolDoor.is_full c.args.number c.args.slot.now (Some c.in-Some.mount) door door
    {size = g.N.Naming.page_bytes} {reply = Err SlotTaken} c.in-Remount.is refl refl
    (subst (λ (s : Slot). IsDone g.D.PoolDoor.took g.D.PoolDoor.is_full g.N.Naming.page_bytes c.args.number s door (Remount c.in-Remount.options) (Err SlotTaken) (Some c.in-Some.mount) door)
    (sym c.in-Some.is)
    (limits_first g.D.PoolDoor.took g.D.PoolDoor.is_full g.N.Naming.page_bytes c.args.number c.in-Remount.options c.in-Some.mount door
    (let zero = c.if-number-eq0.true in grind (arith, nat_tests, zero))))

pub returns-in-Umount-clause-done : goal.returns-in-Umount-clause-done
returns-in-Umount-clause-done g c =
    asked_as g.D.PoolDoor.took g.D.PoolDoor.is_full c.args.number c.args.slot.now c.unmount.new.slot c.args.door.now c.unmount.new.door
    c.in-Umount.is refl c.done-in-Umount.ensures (c.unmount.ensures.done g.N.Naming.page_bytes)

pub returns-in-ForkMaps-clause-done : goal.returns-in-ForkMaps-clause-done
returns-in-ForkMaps-clause-done g c =
    asked_as g.D.PoolDoor.took g.D.PoolDoor.is_full c.args.number c.args.slot.now c.fork.new.slot c.args.door.now c.fork.new.door
    c.in-ForkMaps.is refl c.done-in-ForkMaps.ensures (c.fork.ensures.done g.N.Naming.page_bytes c.args.number)

pub returns-in-ExitMaps-clause-done : goal.returns-in-ExitMaps-clause-done
returns-in-ExitMaps-clause-done g c =
    asked_as g.D.PoolDoor.took g.D.PoolDoor.is_full c.args.number c.args.slot.now c.leave.new.slot c.args.door.now c.leave.new.door
    {size = g.N.Naming.page_bytes} {reply = Ok Done} c.in-ExitMaps.is refl refl (c.leave.ensures.done g.N.Naming.page_bytes c.args.number)

pub returns-then-is_of_mount-clause-done : goal.returns-then-is_of_mount-clause-done
returns-then-is_of_mount-clause-done g c =
    mount_done g.D.PoolDoor.took g.D.PoolDoor.is_full g.N.Naming.page_bytes c.args.number c.args.slot.now c.act.new.slot c.args.door.now c.act.new.door
    c.args.event.now (told_reply c.act.new.reply) (sym c.is_of_mount.ensures ∙ c.if-is_of_mount.true) (c.act.ensures.done c.args.number)

pub returns-else-number-eq0-clause-done : goal.returns-else-number-eq0-clause-done
returns-else-number-eq0-clause-done g c =
    let door = c.args.door.now in
    let did = c.remount in
    let text = c.as_slice-else-number-eq0 in
    let other : (c.args.number == 0) ≡ false = grind (arith, nat_tests, c.if-number-eq0.false) in
    asked_as g.D.PoolDoor.took g.D.PoolDoor.is_full c.args.number c.args.slot.now (Some did.new.self) door did.new.door
    (c.in-Remount.is ∙ ap Remount (sym text.ensures)) c.requires.page_bytes c.done-else-number-eq0.ensures
    (subst (λ (s : Slot). IsDone g.D.PoolDoor.took g.D.PoolDoor.is_full c.args.page_bytes c.args.number s door (Remount text.result.now) (done_reply did.result)
    (Some did.new.self) did.new.door)
    (sym c.in-Some.is) (did.ensures.done c.args.number other))
