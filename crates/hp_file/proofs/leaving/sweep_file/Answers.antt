use Rattle.std.proofs.lemmas.Grind.{common_steps}
use Rattle.std.proofs.Common.{arith}
use Rattle.std.proofs.lemmas.List.Sums.{get_or-le-sum_by, sum_by-remove}
use Rattle.hp_file.proofs.Counting.{dropped_as, part_held}
use Rattle.hp_file.proofs.leaving.sweep_file.Goals as goal

pub close-requires : goal.close-requires
close-requires g c = grind (arith, common_steps, get_or-le-sum_by, part_held)

pub returns-clause-dropping : goal.returns-clause-dropping
returns-clause-dropping g c = grind (arith, common_steps, sum_by-remove, dropped_as)
