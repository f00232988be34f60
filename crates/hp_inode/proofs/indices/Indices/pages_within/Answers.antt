use Rattle.std.proofs.Common.{◌∙◌}
use Rattle.hp_inode.proofs.CellFacts.{length-cells, paged_cells}
use Rattle.hp_inode.proofs.indices.Indices.pages_within.Goals as goal

pub returns : goal.returns
returns c =
    let s = c.self.inside in
    let within = rw (← c.self.view_is, length-cells s.len s.entries s.table) at c.requires in
    rw (← c.self.view_is) (c.count.ensures ∙ paged_cells s.len s.count s.entries s.table c.self.invariant.kept c.args.a c.args.b within)
