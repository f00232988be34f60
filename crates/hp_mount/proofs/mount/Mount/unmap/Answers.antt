use Rattle.std.proofs.Common.{arith}
use Rattle.std.proofs.lemmas.Grind.{common_steps}
use Rattle.hp_model.proofs.Words.{Mount, file_unmapped, is_map}
use Rattle.hp_lookup.proofs.Words.{spot_of}
use Rattle.hp_mount_laws.specs.Kept.{mount_from}
use Rattle.hp_mount_laws.proofs.Giving.{gave_through, keeps}
use Rattle.hp_mount_laws.proofs.Leaving.{bad_indices, few_reserves, fewer, indices_left, no_map_there}
use Rattle.hp_mount.proofs.mount.Mount.unmap.Goals as goal

pub returns-in_default-clause-done : goal.returns-in_default-clause-done
returns-in_default-clause-done g c size k =
    let o = c.self.inside in
    let m : Mount = mount_from o.share o.inodes o.files.files in
    rw (← c.self.view_is) (no_map_there g.D.PoolDoor.took g.D.PoolDoor.is_full m c.args.task c.args.map c.args.range.start c.args.range.end c.args.door.now
    (c.in_default.ensures.none m.limits))

pub returns-then-end-start-clause-done : goal.returns-then-end-start-clause-done
returns-then-end-start-clause-done g c size k =
    let o = c.self.inside in
    let m : Mount = mount_from o.share o.inodes o.files.files in
    rw (← c.self.view_is) (bad_indices g.D.PoolDoor.took g.D.PoolDoor.is_full m c.args.task c.args.map c.args.range.start c.args.range.end c.args.door.now
    (spot_of o.files.files c.in-Some.at.file c.in-Some.at.map) (c.in-Some.ensures.some.is m.limits) c.then-end-start.either)

pub unmap-reserves-requires-clause-few : goal.unmap-reserves-requires-clause-few
unmap-reserves-requires-clause-few g c = grind (arith, common_steps, few_reserves)

pub invariant_of-self : goal.invariant_of-self
invariant_of-self g c = keeps c.self.invariant c.unmap-reserves.ensures.left c.unmap-reserves.ensures.files c.give_back.ensures.share c.give_back.ensures.going
    (fewer (file_unmapped (is_map c.args.task c.args.map) c.args.range.start c.args.range.end) c.self.inside.files.files)

pub returns-clause-done : goal.returns-clause-done
returns-clause-done g c size k =
    let o = c.self.inside in
    let m : Mount = mount_from o.share o.inodes o.files.files in
    rw (← c.self.view_is) (indices_left g.D.PoolDoor.took g.D.PoolDoor.is_full m c.args.task c.args.map c.args.range.start c.args.range.end c.args.door.now
    (spot_of o.files.files c.in-Some.at.file c.in-Some.at.map) (c.in-Some.ensures.some.is m.limits) c.if-end-start.false c.if-end-gt-MOST_FILE_PAGES.false
    (mount_from c.give_back.new.share o.inodes c.give_back.new.self.files) c.give_back.new.door
    (gave_through c.self.invariant c.unmap-reserves.ensures.left c.unmap-reserves.ensures.files c.give_back.ensures.share c.give_back.ensures.going c.give_back.ensures.given))
