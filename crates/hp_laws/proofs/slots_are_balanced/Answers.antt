use Rattle.hp_laws.proofs.steps.SlotsBalanced.{slots_are_balanced}
use Rattle.hp_laws.proofs.slots_are_balanced.Goals as goal

pub returns : goal.returns
returns c = slots_are_balanced
