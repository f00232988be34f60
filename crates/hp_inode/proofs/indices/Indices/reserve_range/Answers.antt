use Rattle.std.proofs.lemmas.Grind.{common_steps}
use Rattle.std.proofs.Common.{arith}
use Rattle.hp_inode.proofs.CellFacts.{length-cells}
use Rattle.hp_inode.proofs.indices.Indices.reserve_range.Goals as goal

pub prepare-requires : goal.prepare-requires
prepare-requires c = grind (arith, common_steps, length-cells)
