use Rattle.std.proofs.lemmas.Grind.{common_steps}
use Rattle.std.proofs.Common.{arith}
use Rattle.hp_mapping.proofs.Untouched.{copied_touched, get_touched, set_touched}
use Rattle.hp_mapping.proofs.dense.Dense.drop_copy.Goals as goal

pub returns : goal.returns
returns c = grind (arith, common_steps, copied_touched, get_touched, set_touched)
