use Rattle.std.proofs.Common.{◌≡◌, ◌==◌, false, Err, Ok, Some, sym, ap, subst, ◌∙◌, arith, not}
use Rattle.std.proofs.lemmas.Bool.Decides.{nat_tests}
use Rattle.hp_model.specs.declared.answer.Answer.TheVariants.{Done}
use Rattle.hp_model.specs.declared.event.SlotEvent.TheVariants.{Umount}
use Rattle.hp_model.specs.declared.refusal.Refusal.TheVariants.{Busy, NoSuchSlot}
use Rattle.hp_model.proofs.Words.{Slot}
use Rattle.hp_mount_laws.specs.Done.{IsDone}
use Rattle.hp_slot.proofs.Mounts.{none_mount, some_mount, unmounted, unmounted_busy, unmounted_none}
use Rattle.hp_slot.proofs.mounting.unmount.Goals as goal

pub returns-then-is_none-clause-done : goal.returns-then-is_none-clause-done
returns-then-is_none-clause-done g c = λ size.
    let door = c.args.door.now in
    subst (λ (s : Slot). IsDone g.D.PoolDoor.took (λ d. ⊥) size c.args.number s door Umount (Err NoSuchSlot) s door) (sym (none_mount c.args.slot.now (c.is_none.ensures ∙ ap not c.if-is_none.true)))
    (unmounted_none g.D.PoolDoor.took (λ d. ⊥) size c.args.number door)

pub returns-then-number-eq0-clause-done : goal.returns-then-number-eq0-clause-done
returns-then-number-eq0-clause-done g c = λ size.
    let door = c.args.door.now in
    let some = some_mount c.args.slot.now (c.is_none.ensures ∙ ap not c.if-is_none.false) in
    subst (λ (s : Slot). IsDone g.D.PoolDoor.took (λ d. ⊥) size c.args.number s door Umount (Err Busy) s door) (sym some.1)
    (unmounted_busy g.D.PoolDoor.took (λ d. ⊥) size c.args.number some.0 door (λ other. absurd (let zero = c.if-number-eq0.true in grind (arith, nat_tests, zero, other))))

pub returns-in-Ok-clause-done : goal.returns-in-Ok-clause-done
returns-in-Ok-clause-done g c = λ size.
    let took = g.D.PoolDoor.took in
    let door = c.args.door.now in
    let left = c.close.new.door in
    let other : (c.args.number == 0) ≡ false = grind (arith, nat_tests, c.if-number-eq0.false) in
    subst (λ (s : Slot). IsDone took (λ d. ⊥) size c.args.number s door Umount (Ok Done) c.replace.new.dest left) (sym (sym c.replace.ensures.value ∙ c.in-Some.is))
    (subst (λ (s : Slot). IsDone took (λ d. ⊥) size c.args.number (Some c.in-Some.mount) door Umount (Ok Done) s left) (sym c.replace.ensures.after)
    (unmounted took (λ d. ⊥) size c.args.number c.in-Some.mount door left other c.in-Ok.ensures.free c.in-Ok.ensures.done))

pub returns-in-None-clause-done : goal.returns-in-None-clause-done
returns-in-None-clause-done g c = λ size.
    let took = g.D.PoolDoor.took in
    let m = c.in-Some.mount in
    let door = c.args.door.now in
    subst (λ (s : Slot). IsDone took (λ d. ⊥) size c.args.number s door Umount (Err Busy) c.replace-in-Err.new.dest c.close.new.door) (sym (sym c.replace.ensures.value ∙ c.in-Some.is))
    (subst (λ (s : Slot). IsDone took (λ d. ⊥) size c.args.number (Some m) door Umount (Err Busy) s c.close.new.door) (sym (c.replace-in-Err.ensures.after ∙ ap Some c.in-Err.ensures.same))
    (subst (λ e. IsDone took (λ d. ⊥) size c.args.number (Some m) door Umount (Err Busy) (Some m) e) (sym c.in-Err.ensures.door)
    (unmounted_busy took (λ d. ⊥) size c.args.number m door (λ other. c.in-Err.ensures.busy))))
