use Rattle.hp_inode.proofs.Bare.{holes_kept}
use Rattle.hp_inode.proofs.CellFacts.{entered_in_all}
use Rattle.hp_inode.proofs.Inode.entry_count.Goals as goal

pub returns-in-Holes : goal.returns-in-Holes
returns-in-Holes c = rw (← c.self.view_is, c.in-Holes.is) (entered_in_all _ _ _ _ (holes_kept c.in-Holes.is c.self.invariant))
