use Rattle.hp_inode.proofs.CellFacts.{entered_in_all}
use Rattle.hp_inode.proofs.indices.Indices.entry_count.Goals as goal

pub returns : goal.returns
returns c = rw (← c.self.view_is) (entered_in_all _ _ _ _ c.self.invariant.kept)
