use Rattle.hp_own_pool.proofs.Returning.{granted_ready}
use Rattle.hp_own_pool.proofs.Takings.{filled_ready}
use Rattle.hp_own_pool.proofs.filling.take_pages.Goals as goal

pub returns-in-Ok-clause-ready : goal.returns-in-Ok-clause-ready
returns-in-Ok-clause-ready g c =
    filled_ready c.args.count c.get.new.pool c.take_claims.new.pool c.take_claims.ensures.pool c.take_claims.ensures.settled
    (granted_ready c.get.result _ _ _ _ c.args.pool.now c.get.new.pool c.get.ensures.ok c.get.ensures.err c.get.ensures.settled c.requires.ready)
