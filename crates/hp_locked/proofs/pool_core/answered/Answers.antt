use Rattle.hp_locked.proofs.Added.{set_ready}
use Rattle.hp_locked.proofs.pool_core.answered.Goals as goal

pub returns-in-Nr-clause-ready : goal.returns-in-Nr-clause-ready
returns-in-Nr-clause-ready g c = set_ready c.args.pool.now c.set_nr.new.self c.in-Nr.pages c.set_nr.ensures.moved c.requires c.set_nr.ensures.settled
