use Rattle.hp_order.proofs.Runs.{each_run}
use Rattle.hp_order.proofs.each_run_goes_on.Goals as goal

pub returns : goal.returns
returns c = each_run
