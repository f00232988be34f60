use Rattle.std.proofs.Common.{sym, subst}
use Rattle.hp_mount_door.specs.Door.{IsReady}
use Rattle.hp_own_pool.proofs.Returning.{granted_ready, taken_ready}
use Rattle.hp_own_pool.proofs.own.OwnPoolPoolDoor.get_page.Goals as goal

pub returns-clause-left : goal.returns-clause-left
returns-clause-left g c =
    let ready = subst IsReady (sym c.self.view_is) c.requires.ready in
    taken_ready _ c.get.new.pool c.take_one-claim.new.pool c.take_one-claim.ensures.pool c.take_one-claim.ensures.settled
    (granted_ready c.get.result _ _ _ _ c.self.inside.pool c.get.new.pool c.get.ensures.ok c.get.ensures.err c.get.ensures.settled ready)
