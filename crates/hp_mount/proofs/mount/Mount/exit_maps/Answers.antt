use Rattle.std.proofs.lemmas.Grind.{common_steps}
use Rattle.std.proofs.Common.{Some, ap, ◌∙◌, arith}
use Rattle.hp_laws.proofs.Variants.{Done}
use Rattle.hp_model.proofs.Words.{Mount, file_without, gives, without_task}
use Rattle.hp_mount_laws.specs.Kept.{mount_from}
use Rattle.hp_mount_laws.proofs.Giving.{gave_through, keeps, leaves}
use Rattle.hp_mount_laws.proofs.Leaving.{few_reserves, fewer, fewer_maps, tried}
use Rattle.hp_mount.proofs.mount.Mount.exit_maps.Goals as goal

pub exit-reserves-requires : goal.exit-reserves-requires
exit-reserves-requires g c = grind (arith, common_steps, few_reserves)

pub invariant_of-self : goal.invariant_of-self
invariant_of-self g c = keeps c.self.invariant c.exit-reserves.ensures.left c.exit-reserves.ensures.files c.give_back.ensures.share c.give_back.ensures.going
    (fewer (file_without c.args.task) c.self.inside.files.files)

pub returns-clause-done : goal.returns-clause-done
returns-clause-done g c size k =
    let o = c.self.inside in
    let m : Mount = mount_from o.share o.inodes o.files.files in
    rw (← c.self.view_is) (tried g.D.PoolDoor.took g.D.PoolDoor.is_full m (gives Done (Some m) (Some (without_task c.args.task m))) c.args.door.now
    (mount_from c.give_back.new.share o.inodes c.give_back.new.self.files) c.give_back.new.door
    (gave_through c.self.invariant c.exit-reserves.ensures.left c.exit-reserves.ensures.files c.give_back.ensures.share c.give_back.ensures.going c.give_back.ensures.given))

pub returns-clause-fewer : goal.returns-clause-fewer
returns-clause-fewer g c has =
    fewer_maps c.args.task c.args.self.now (mount_from c.give_back.new.share c.self.inside.inodes c.give_back.new.self.files)
    (leaves c.self.invariant c.exit-reserves.ensures.left c.exit-reserves.ensures.files c.give_back.ensures.share c.give_back.ensures.going ∙ ap (without_task c.args.task) c.self.view_is) has
