use Rattle.hp_laws.proofs.steps.RefusalsKeep.{refusals_change_nothing}
use Rattle.hp_laws.proofs.refusals_change_nothing.Goals as goal

pub returns : goal.returns
returns c = refusals_change_nothing
