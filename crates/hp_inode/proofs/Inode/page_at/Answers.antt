use Rattle.std.proofs.Common.{◌∙◌}
use Rattle.hp_inode.proofs.Bare.{holes_kept}
use Rattle.hp_inode.proofs.CellFacts.{page_at_cell}
use Rattle.hp_inode.proofs.Inode.page_at.Goals as goal

pub returns-in-Holes : goal.returns-in-Holes
returns-in-Holes c = rw (← c.self.view_is, c.in-Holes.is) (page_at_cell _ _ _ _ (holes_kept c.in-Holes.is c.self.invariant) c.args.i)

pub returns-in-Kept : goal.returns-in-Kept
returns-in-Kept c =
    rw (← c.self.view_is, c.in-Kept.is, ← c.deref.ensures, ← c.behind-indices.view_is)
    (c.page_at.ensures ∙ page_at_cell _ _ _ _ c.behind-indices.invariant.kept c.args.i)
