use Rattle.std.proofs.lemmas.Grind.{common_steps}
use Rattle.std.proofs.Common.{arith}
use Rattle.hp_mapping.proofs.Untouched.{get_after, long, set_after}
use Rattle.hp_mapping.proofs.dense.Dense.leave.Goals as goal

pub returns : goal.returns
returns c = record { left = grind (arith, common_steps, long, set_after); freed_is = grind (arith, common_steps, get_after, long) }
