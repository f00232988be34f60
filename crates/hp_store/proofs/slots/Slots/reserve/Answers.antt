use Rattle.std.proofs.Common.{◌≤◌, arith}
use Rattle.hp_store.proofs.Room.{lengthens}
use Rattle.hp_store.proofs.slots.Slots.reserve.Goals as goal

pub returns-clause-slots : goal.returns-clause-slots
returns-clause-slots g c =
    let used = c.self.inside.used in
    let more : used.room ≤ c.min-room.result = omega (arith, c.if-room.false, c.room.ensures.room) in
    rw (← c.self.view_is, c.in_ok-widen-2.ensures.ok) (lengthens used.room c.min-room.result used.slots c.self.invariant.within more)
