use Rattle.std.proofs.lemmas.Grind.{common_steps}
use Rattle.std.proofs.Common.{arith}
use Rattle.hp_inode.proofs.CellFacts.{missing_cells, length-cells}
use Rattle.hp_inode.proofs.indices.Indices.missing.Goals as goal

pub returns : goal.returns
returns c = grind (arith, common_steps, missing_cells, length-cells)
