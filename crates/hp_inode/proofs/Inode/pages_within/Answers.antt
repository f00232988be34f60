use Rattle.std.proofs.Common.{[], ◌∙◌}
use Rattle.hp_inode.proofs.Bare.{holes_kept, none_paged}
use Rattle.hp_inode.proofs.CellFacts.{length-cells, paged_cells}
use Rattle.hp_inode.proofs.Inode.pages_within.Goals as goal

pub returns-in-Holes : goal.returns-in-Holes
returns-in-Holes c =
    let len = c.in-Holes.field-0 in
    let within = rw (← c.self.view_is, c.in-Holes.is, length-cells len [] []) at c.requires in
    rw (← c.self.view_is, c.in-Holes.is) (none_paged c.args.a c.args.b ∙ paged_cells len 0 [] [] (holes_kept c.in-Holes.is c.self.invariant) c.args.a c.args.b within)
