use Rattle.hp_laws.proofs.settled.StaysSettled.{runs_are_settled}
use Rattle.hp_laws.proofs.runs_are_settled.Goals as goal

pub returns : goal.returns
returns c = runs_are_settled
