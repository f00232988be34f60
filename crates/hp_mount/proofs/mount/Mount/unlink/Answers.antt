use Rattle.std.proofs.Common.{[], refl}
use Rattle.hp_model.proofs.Words.{Mount, unlinked}
use Rattle.hp_mount_laws.specs.Kept.{mount_from}
use Rattle.hp_mount_laws.proofs.Giving.{gave_back, gave_through, keeps, no_more, nowhere}
use Rattle.hp_mount.proofs.mount.Mount.unlink.Goals as goal

pub returns-in_default-clause-done : goal.returns-in_default-clause-done
returns-in_default-clause-done g c size k =
    let o = c.self.inside in
    let m : Mount = mount_from o.share o.inodes o.files.files in
    rw (← c.self.view_is) (nowhere g.D.PoolDoor.took g.D.PoolDoor.is_full m c.args.name.now [] unlinked
    c.args.door.now c.in_default.ensures.none)

pub invariant_of-self : goal.invariant_of-self
invariant_of-self g c = keeps c.self.invariant c.unlink-reserves.ensures.left c.unlink-reserves.ensures.files c.give_back.ensures.share c.give_back.ensures.going
    (no_more c.in-Some.file _ c.self.inside.files.files)

pub returns-clause-done : goal.returns-clause-done
returns-clause-done g c size k =
    let o = c.self.inside in
    let m : Mount = mount_from o.share o.inodes o.files.files in
    rw (← c.self.view_is) (gave_back g.D.PoolDoor.took g.D.PoolDoor.is_full m c.args.name.now [] unlinked
    c.args.door.now c.in-Some.file c.in-Some.ensures.some.is refl
    (mount_from c.give_back.new.share o.inodes c.give_back.new.self.files) c.give_back.new.door
    (gave_through c.self.invariant c.unlink-reserves.ensures.left c.unlink-reserves.ensures.files c.give_back.ensures.share c.give_back.ensures.going c.give_back.ensures.given))
