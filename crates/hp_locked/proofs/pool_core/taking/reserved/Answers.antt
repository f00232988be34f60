use Rattle.hp_own_pool.proofs.Returning.{granted_ready}
use Rattle.hp_locked.proofs.pool_core.taking.reserved.Goals as goal

pub returns-in-Ok-clause-ready : goal.returns-in-Ok-clause-ready
returns-in-Ok-clause-ready g c = granted_ready c.get.result _ _ _ _ c.args.pool.now c.get.new.pool c.get.ensures.ok c.get.ensures.err c.get.ensures.settled c.requires.ready
