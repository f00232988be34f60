use Rattle.std.proofs.lemmas.Grind.{common_steps}
use Rattle.std.proofs.Common.{arith}
use Rattle.hp_mount.specs.declared.mount.reach.Asked.TheVariants.{Page}
use Rattle.hp_mount.proofs.Commands.{early_not_memory, ended, not_begun, nothing_follows, page_placed, why_is_early}
use Rattle.hp_mount.proofs.mount.Mount.fault.Goals as goal

pub returns-in-Err-clause-done : goal.returns-in-Err-clause-done
returns-in-Err-clause-done g c k =
    not_begun g.D.PoolDoor.took g.D.PoolDoor.is_full c.args.self.now c.args.door.now g.N.Naming.page_bytes c.args.home c.args.access.now c.args.intent Page (λ s p. p)
    (nothing_follows g.D.PoolDoor.took g.D.PoolDoor.is_full c.args.self.now c.args.door.now) c.in-Err.refusal c.in-Err.ensures.refused

pub returns-in-Err-clause-memory : goal.returns-in-Err-clause-memory
returns-in-Err-clause-memory g c backed = grind (arith, common_steps, early_not_memory, why_is_early)

pub returns-clause-done : goal.returns-clause-done
returns-clause-done g c k =
    ended g.D.PoolDoor.took g.D.PoolDoor.is_full c.args.self.now c.args.door.now g.N.Naming.page_bytes c.args.home c.args.access.now c.args.intent Page
    c.in-Ok.at (page_placed c.args.self.now c.args.access.now 0 g.N.Naming.page_bytes c.in-Ok.at c.in-Ok.ensures.placed) c.reach.result c.reach.new.self c.reach.new.door c.reach.ensures.done
