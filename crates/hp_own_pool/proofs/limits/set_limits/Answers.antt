use Rattle.hp_own_pool.proofs.Limiting.{limited_ready}
use Rattle.hp_own_pool.proofs.limits.set_limits.Goals as goal

pub returns-in-Ok-set_limits-clause-ready : goal.returns-in-Ok-set_limits-clause-ready
returns-in-Ok-set_limits-clause-ready g c =
    limited_ready c.args.share.now c.in-Ok.limits.min c.args.pool.now c.set_limits.new.pool c.in-Ok-set_limits.ensures.ok.1 c.set_limits.ensures.settled c.requires.ready
