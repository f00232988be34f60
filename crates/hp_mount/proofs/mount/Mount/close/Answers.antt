use Rattle.std.proofs.Common.{Ok, None, Some, subst, arith}
use Rattle.hp_laws.proofs.Variants.{Done}
use Rattle.hp_model.proofs.Words.{Mount, ThroughDoor, gives}
use Rattle.hp_mount_laws.specs.Kept.{mount_from}
use Rattle.hp_mount_laws.proofs.Ending.{ended}
use Rattle.hp_subpool.specs.Subpool.{committed_of}
use Rattle.hp_mount.proofs.mount.Mount.close.Goals as goal

pub returns-clause-done : goal.returns-clause-done
returns-clause-done g c =
    let o = c.self.inside in
    let m = mount_from o.share o.inodes o.files.files in
    let took = g.D.PoolDoor.took in
    let door = c.args.door.now in
    let going = c.close-going.result in
    let inv = c.self.invariant in
    subst (λ (x : Mount). ThroughDoor took (gives Done (Some x) None) (Some x) door (Ok Done) None c.empty.new.self) c.self.view_is
    (ended took m going.going (committed_of o.share) door c.empty.new.self c.close-going.ensures.nodes (omega (arith, inv.used)) c.empty.ensures.given)

pub returns-then-map_count-gt0-clause-left : goal.returns-then-map_count-gt0-clause-left
returns-then-map_count-gt0-clause-left g c = g.D.PoolDoor.stays c.args.door.now c.requires.ready
