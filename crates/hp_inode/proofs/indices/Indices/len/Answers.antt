use Rattle.std.proofs.Common.{sym}
use Rattle.hp_inode.proofs.CellFacts.{length-cells}
use Rattle.hp_inode.proofs.indices.Indices.len.Goals as goal

pub returns-clause-len : goal.returns-clause-len
returns-clause-len c = rw (← c.self.view_is) (sym (length-cells _ _ _))
