use Rattle.std.proofs.lemmas.Grind.{common_steps}
use Rattle.std.proofs.Common.{sym, ap, ◌∙◌, arith}
use Rattle.hp_model.proofs.Words.{Mount, file_in, is_shared, map_in}
use Rattle.hp_mount_files.proofs.Lent.{shared_lent}
use Rattle.hp_mount.proofs.Commands.{backed_is_entered}
use Rattle.hp_mount.proofs.Loading.{reached_shared}
use Rattle.hp_mount.proofs.mount.Mount.reach.Goals as goal

pub returns-then-is_shared-clause-done : goal.returns-then-is_shared-clause-done
returns-then-is_shared-clause-done g c =
    let a = c.args in
    reached_shared g.D.PoolDoor.took g.D.PoolDoor.is_full g.N.Naming.page_bytes a.home a.self.now a.door.now a.at a.index a.intent c.reach_shared.result c.reach_shared.new.self c.reach_shared.new.door
    (sym (ap (λ (x : Mount). is_shared (map_in (file_in x a.at.file) a.at.map).sharing) c.self.view_is) ∙ sym (c.is_shared.ensures ∙ shared_lent c.map.ensures) ∙ c.if-is_shared.true)
    c.reach_shared.ensures.done

pub returns-then-is_shared-clause-memory : goal.returns-then-is_shared-clause-memory
returns-then-is_shared-clause-memory g c backed = grind (arith, common_steps, shared_lent, backed_is_entered)
