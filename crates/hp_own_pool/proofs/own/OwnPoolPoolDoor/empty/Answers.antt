use Rattle.std.proofs.Common.{◌∙◌, ap, sym, subst}
use Rattle.hp_mount_door.specs.Door.{IsReady}
use Rattle.hp_own_pool.proofs.Returning.{settled_ready, share_given}
use Rattle.hp_subpool.specs.Subpool.{Subpool}
use Rattle.hp_own_pool.proofs.own.OwnPoolPoolDoor.empty.Goals as goal

pub returns-clause-left : goal.returns-clause-left
returns-clause-left g c =
    let was = c.self.inside.pool in
    let pages = c.requires.pages ∙ sym (ap (λ (s : Subpool). s.pages) c.take_all-last.ensures.all) in
    let ready = subst IsReady (sym c.self.view_is) c.requires.ready in
    settled_ready c.args.going.now.going _ was c.settle.new.self ready c.settle.ensures.settled
    (share_given c.take_all-last.result c.put_pages.new.share c.args.going.now.going was c.put_pages.new.pool c.put_reserves.new.pool c.settle.new.self
    c.put_pages.ensures.share c.put_pages.ensures.pool c.used-held.result c.put_reserves.new.self c.close.new.pool pages
    c.used-held.ensures c.put_reserves.ensures.sub c.put_reserves.ensures.pool c.close.ensures.pool c.settle.ensures.moved)
