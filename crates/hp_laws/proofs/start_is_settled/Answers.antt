use Rattle.hp_laws.proofs.settled.StaysSettled.{start_is_settled}
use Rattle.hp_laws.proofs.start_is_settled.Goals as goal

pub returns : goal.returns
returns c = start_is_settled
