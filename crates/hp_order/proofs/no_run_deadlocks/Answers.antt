use Rattle.hp_order.proofs.Runs.{no_run}
use Rattle.hp_order.proofs.no_run_deadlocks.Goals as goal

pub returns : goal.returns
returns c = no_run
