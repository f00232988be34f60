use Rattle.std.proofs.Common.{Ok, refl, sym, ap}
use Rattle.hp_laws.proofs.Variants.{Numbers}
use Rattle.hp_model.specs.declared.event.PoolEvent.TheVariants.{Meminfo}
use Rattle.hp_model.proofs.Words.{IsStep}
use Rattle.hp_system.proofs.MachineSteps.{pool_saw}
use Rattle.hp_system.proofs.Ready.{pool_ready}
use Rattle.hp_system.proofs.system.System.meminfo.Goals as goal

pub counts-requires : goal.counts-requires
counts-requires g c = (pool_ready c.self.view_is c.requires.ready).settled

pub returns-clause-step : goal.returns-clause-step
unfolding IsStep
returns-clause-step g c = pool_saw Meminfo c.self.view_is c.requires.ready (ap (λ x. (Ok (Numbers x), c.self.inside.pool)) (sym c.counts.ensures.counts)) refl
