use Rattle.std.proofs.lemmas.Grind.{common_steps}
use Rattle.std.proofs.Common.{arith}
use Rattle.hp_file.proofs.Leaves.{left_owed}
use Rattle.hp_file.proofs.dropping.end_map_of.Goals as goal

pub returns-clause-reserves : goal.returns-clause-reserves
returns-clause-reserves g c = grind (arith, common_steps, left_owed)
