use Rattle.hp_laws.proofs.Variants.{Add}
use Rattle.hp_system.proofs.MachineSteps.{connect_step, table_went}
use Rattle.hp_system.proofs.Ready.{ready_with}
use Rattle.hp_system.proofs.system.System.connect.Goals as goal

pub returns-clause-ready : goal.returns-clause-ready
returns-clause-ready g c = ready_with c.self.view_is c.requires.ready

pub returns-clause-step : goal.returns-clause-step
returns-clause-step g c =
    connect_step _ _ c.args.task c.args.home _ (table_went (Add c.args.task c.args.home) c.self.view_is c.len-nodes.ensures c.add_task.ensures)
