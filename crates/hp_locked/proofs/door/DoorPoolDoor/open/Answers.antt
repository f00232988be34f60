use Rattle.std.proofs.Common.{◌≡◌, ◌==◌, None, true, refl}
use Rattle.hp_history.specs.Sections.{IsEntered}
use Rattle.hp_locked.specs.Views.{HasAsked, DoorView}
use Rattle.hp_locked.proofs.Doors.{door_took}
use Rattle.hp_own_pool.proofs.Shares.{opened_at}
use Rattle.hp_locked.proofs.door.DoorPoolDoor.open.Goals as goal

pub returns-in-Ok-clause-opened : goal.returns-in-Ok-clause-opened
returns-in-Ok-clause-opened g c =
    opened_at (λ (d : DoorView) s a (e : DoorView). HasAsked e.asked s a × IsEntered (g.row.K == 1) d.mine e.asked e.mine)
    (λ (d : DoorView). (d.asked ≡ None) × ((g.row.K == 1) ≡ true)) c.args.page_bytes c.args.options.now c.args.self.now
    _ c.in-Ok.share _ c.in-Ok.asked.section c.in-Ok.asked.answer c.in-Ok.ensures.opens
    (door_took (g.row.K == 1) _ c.args.self.now _ c.in-Ok.asked _ _ c.self.view_is c.in-Ok.ensures.entered refl refl)
