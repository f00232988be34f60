use Rattle.hp_laws.proofs.settled.CountsHold.{counts_are_sums}
use Rattle.hp_laws.proofs.counts_are_sums.Goals as goal

pub returns : goal.returns
returns c = counts_are_sums
