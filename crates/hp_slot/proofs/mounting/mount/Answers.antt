use Rattle.std.proofs.Common.{Err, Ok, Some, sym, ap, subst, ◌∙◌}
use Rattle.hp_model.specs.declared.event.SlotEvent.TheVariants.{Mount as Mounting}
use Rattle.hp_model.specs.declared.refusal.Refusal.TheVariants.{SlotTaken}
use Rattle.hp_model.proofs.Words.{Slot}
use Rattle.hp_mount_laws.specs.Done.{IsDone}
use Rattle.hp_slot.proofs.Mounts.{mounted_on, none_mount, opened_held, opened_pages, some_mount, taken}
use Rattle.hp_slot.proofs.mounting.mount.Goals as goal

pub returns-then-is_some-clause-done : goal.returns-then-is_some-clause-done
returns-then-is_some-clause-done g c = λ k.
    let door = c.args.door.now in
    let some = some_mount c.args.slot.now (sym c.is_some.ensures ∙ c.if-is_some.true) in
    subst (λ (s : Slot). IsDone g.D.PoolDoor.took g.D.PoolDoor.is_full c.args.page_bytes k s door (Mounting c.args.options.now) (Err SlotTaken) s door) (sym some.1)
    (taken g.D.PoolDoor.took g.D.PoolDoor.is_full c.args.page_bytes k c.args.options.now some.0 door)

pub new-open-requires-clause-pages : goal.new-open-requires-clause-pages
new-open-requires-clause-pages g c =
    opened_pages g.D.PoolDoor.took g.D.PoolDoor.is_full c.args.page_bytes c.args.options.now c.args.door.now c.open.new.self
    c.open.result c.open.ensures.opened c.in-Ok.share c.in-Ok.limits c.in-Ok.is

pub new-open-requires-clause-held : goal.new-open-requires-clause-held
new-open-requires-clause-held g c =
    opened_held g.D.PoolDoor.took g.D.PoolDoor.is_full c.args.page_bytes c.args.options.now c.args.door.now c.open.new.self
    c.open.result c.open.ensures.opened c.in-Ok.share c.in-Ok.limits c.in-Ok.is

pub returns-in-Err-clause-done : goal.returns-in-Err-clause-done
returns-in-Err-clause-done g c = λ k.
    let none = none_mount c.args.slot.now (sym c.is_some.ensures ∙ c.if-is_some.false) in
    mounted_on g.D.PoolDoor.took g.D.PoolDoor.is_full c.args.page_bytes c.args.options.now c.args.door.now c.open.new.self k c.args.slot.now c.args.slot.now (Err c.in-Err.refusal)
    c.open.result none none c.in-Err.is c.open.ensures.opened

pub returns-in-None-clause-done : goal.returns-in-None-clause-done
returns-in-None-clause-done g c = λ k.
    mounted_on g.D.PoolDoor.took g.D.PoolDoor.is_full c.args.page_bytes c.args.options.now c.args.door.now c.open.new.self k c.args.slot.now c.replace.new.dest (Ok (c.in-Ok.share, c.in-Ok.limits))
    c.open.result (none_mount c.args.slot.now (sym c.is_some.ensures ∙ c.if-is_some.false)) (c.replace.ensures.after ∙ ap Some c.new-open.ensures) c.in-Ok.is c.open.ensures.opened
