use Rattle.std.proofs.Common.{sym, subst}
use Rattle.hp_mount_door.specs.Door.{IsReady}
use Rattle.hp_own_pool.proofs.Returning.{both_given, settled_ready}
use Rattle.hp_own_pool.proofs.own.OwnPoolPoolDoor.put.Goals as goal

pub returns-clause-left : goal.returns-clause-left
returns-clause-left g c =
    let was = c.self.inside.pool in
    let ready = subst IsReady (sym c.self.view_is) c.requires.ready in
    settled_ready c.args.going.now.going _ was c.settle.new.self ready c.settle.ensures.settled
    (both_given c.args.share.now c.put_pages.new.share c.args.going.now.going was c.put_pages.new.pool c.put_reserves.new.pool c.settle.new.self
    c.put_pages.ensures.share c.put_pages.ensures.pool c.args.reserves c.requires.pages c.put_reserves.ensures.pool c.settle.ensures.moved)
