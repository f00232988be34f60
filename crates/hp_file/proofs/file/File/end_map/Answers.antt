use Rattle.std.proofs.lemmas.Grind.{common_steps}
use Rattle.std.proofs.Common.{arith}
use Rattle.std.proofs.lemmas.List.Sums.{sum_by-remove}
use Rattle.hp_file.proofs.Counting.{dropped_as, part_held}
use Rattle.hp_file.proofs.file.File.end_map.Goals as goal

pub drop_map-requires : goal.drop_map-requires
drop_map-requires g c = grind (arith, common_steps, sum_by-remove, part_held)

pub returns-clause-dropping : goal.returns-clause-dropping
returns-clause-dropping g c = grind (arith, common_steps, sum_by-remove, dropped_as)

pub returns-clause-reserves : goal.returns-clause-reserves
returns-clause-reserves g c = grind (arith, common_steps, sum_by-remove)
