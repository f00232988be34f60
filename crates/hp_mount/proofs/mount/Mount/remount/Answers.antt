use Rattle.std.proofs.lemmas.Grind.{common_steps}
use Rattle.std.proofs.Common.{Ok, arith}
use Rattle.std.proofs.lemmas.Result.{err_from_is_err_and}
use Rattle.hp_mount_laws.proofs.Remounting.{relimited_kept, remount_refused, remount_set}
use Rattle.hp_mount.proofs.mount.Mount.remount.Goals as goal

pub returns-in_err-self-inside-clause-done : goal.returns-in_err-self-inside-clause-done
returns-in_err-self-inside-clause-done g c k apart = grind (arith, common_steps, err_from_is_err_and, remount_refused)

pub invariant_of-self-2 : goal.invariant_of-self-2
invariant_of-self-2 g c =
    relimited_kept g.D.PoolDoor.took g.D.PoolDoor.is_full c.args.page_bytes c.args.options.now c.self.inside.share c.limits.new.share c.args.door.now c.limits.new.self c.self.inside.files
    c.self.inside.inodes c.in_ok-self-inside.field-0 (Ok c.in_ok-self-inside.field-0) c.self.invariant c.in_ok-self-inside.ensures.set

pub returns-clause-done : goal.returns-clause-done
returns-clause-done g c k apart =
    rw (← c.self.view_is) (remount_set g.D.PoolDoor.took g.D.PoolDoor.is_full c.args.page_bytes c.args.options.now c.self.inside.share c.limits.new.share c.args.door.now c.limits.new.self
    c.self.inside.files c.self.inside.inodes c.self.invariant k apart c.in_ok-self-inside.field-0 c.in_ok-self-inside.ensures.set)
