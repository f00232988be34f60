use Rattle.hp_laws.proofs.promises.InRuns.{runs_promised}
use Rattle.hp_laws.proofs.runs_are_promised.Goals as goal

pub returns : goal.returns
returns c = runs_promised
