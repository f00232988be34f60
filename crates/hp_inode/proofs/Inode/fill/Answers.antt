use Rattle.hp_inode.proofs.Bare.{holes_kept, nowhere}
use Rattle.hp_inode.proofs.CellFacts.{entered_cell}
use Rattle.hp_inode.proofs.Inode.fill.Goals as goal

-- among holes none is entered
pub returns-in_default : goal.returns-in_default
returns-in_default c =
    absurd (nowhere c.args.i (entered_cell _ _ _ _ (holes_kept c.in_default.is c.self.invariant) c.args.i (rw (← c.self.view_is, c.in_default.is) at c.requires)))
