use Rattle.std.proofs.Common.{Ok}
use Rattle.hp_own_pool.proofs.Returning.{granted_ready}
use Rattle.hp_own_pool.proofs.opening.open_share.Goals as goal

pub returns-in-Ok-open-clause-ready : goal.returns-in-Ok-open-clause-ready
returns-in-Ok-open-clause-ready g c = granted_ready (Ok tt) (Unit {0}) (Unit {0}) 0 c.in-Ok.limits.min c.args.pool.now c.open.new.pool
    (tt, c.in-Ok-open.ensures.ok.1) tt c.open.ensures.settled c.requires.ready
