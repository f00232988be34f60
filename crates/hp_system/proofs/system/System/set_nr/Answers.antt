use Rattle.hp_model.specs.declared.event.PoolEvent.TheVariants.{Nr}
use Rattle.hp_model.proofs.Words.{IsStep}
use Rattle.hp_system.proofs.MachineSteps.{nr_event, pool_leaves, pool_went}
use Rattle.hp_system.proofs.Ready.{pool_ready}
use Rattle.hp_system.proofs.system.System.set_nr.Goals as goal

pub set_nr-requires : goal.set_nr-requires
set_nr-requires g c = (pool_ready c.self.view_is c.requires.ready).settled

pub returns-clause-ready : goal.returns-clause-ready
returns-clause-ready g c =
    pool_leaves (Nr c.args.pages) c.self.view_is c.requires.ready
    (nr_event c.self.inside.pool c.args.pages c.set_nr.new.self c.set_nr.result c.set_nr.ensures.moved c.set_nr.ensures.value) c.self.invariant

pub returns-clause-step : goal.returns-clause-step
unfolding IsStep
returns-clause-step g c =
    pool_went (Nr c.args.pages) c.self.view_is c.requires.ready
    (nr_event c.self.inside.pool c.args.pages c.set_nr.new.self c.set_nr.result c.set_nr.ensures.moved c.set_nr.ensures.value)
