use Rattle.hp_laws.proofs.settled.JoinedRun.{joined_law}
use Rattle.hp_laws.proofs.trails_join.Goals as goal

pub returns : goal.returns
returns c = joined_law
