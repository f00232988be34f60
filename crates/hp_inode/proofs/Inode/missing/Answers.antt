use Rattle.std.proofs.lemmas.Grind.{common_steps}
use Rattle.std.proofs.Common.{arith}
use Rattle.hp_inode.proofs.Bare.{all_missing}
use Rattle.hp_inode.proofs.CellFacts.{missing_cells, length-cells}
use Rattle.hp_inode.proofs.Inode.missing.Goals as goal

pub returns-in-Holes : goal.returns-in-Holes
returns-in-Holes c = grind (arith, common_steps, all_missing, missing_cells, length-cells)
