use Rattle.hp_own_pool.proofs.Returning.{granted_ready, taken_ready}
use Rattle.hp_locked.proofs.pool_core.taking.paged.Goals as goal

pub returns-in-Ok-clause-ready : goal.returns-in-Ok-clause-ready
returns-in-Ok-clause-ready g c =
    taken_ready _ c.get.new.pool c.take_one-claim.new.pool c.take_one-claim.ensures.pool c.take_one-claim.ensures.settled
    (granted_ready c.get.result _ _ _ _ c.args.pool.now c.get.new.pool c.get.ensures.ok c.get.ensures.err c.get.ensures.settled c.requires.ready)
