use Rattle.hp_laws.proofs.settled.CountsHold.{limits_hold}
use Rattle.hp_laws.proofs.limits_hold.Goals as goal

pub returns : goal.returns
returns c = limits_hold
