use Rattle.hp_laws.proofs.settled.StaysSettled.{pool_is_tied}
use Rattle.hp_laws.proofs.pool_is_tied.Goals as goal

pub returns : goal.returns
returns c = pool_is_tied
