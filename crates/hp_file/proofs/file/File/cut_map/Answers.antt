use Rattle.std.proofs.lemmas.Grind.{common_steps}
use Rattle.std.proofs.Common.{arith}
use Rattle.std.proofs.lemmas.List.Sums.{sum_by-set}
use Rattle.hp_file.proofs.Leaves.{left_owed}
use Rattle.hp_file.proofs.file.File.cut_map.Goals as goal

pub returns-clause-reserves : goal.returns-clause-reserves
returns-clause-reserves g c = grind (arith, common_steps, sum_by-set, left_owed)
