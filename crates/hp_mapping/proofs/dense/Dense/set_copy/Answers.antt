use Rattle.std.proofs.lemmas.Grind.{common_steps}
use Rattle.std.proofs.Common.{arith}
use Rattle.hp_mapping.proofs.Untouched.{get_after, long, set_after}
use Rattle.hp_mapping.proofs.dense.Dense.set_copy.Goals as goal

pub returns : goal.returns
returns c = record {
  set = grind (arith, common_steps, get_after, long, set_after);
  bare_is = grind (arith, common_steps, get_after, long);
  few = grind (arith, common_steps, long);
}
