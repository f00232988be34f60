use Rattle.std.proofs.lemmas.Grind.{common_steps}
use Rattle.std.proofs.Common.{[], arith}
use Rattle.hp_inode.proofs.Bare.{holes_kept, none_in, none_left}
use Rattle.hp_inode.proofs.CellFacts.{entered_cells, length-cells}
use Rattle.hp_inode.proofs.Dropped.{dropped_cells}
use Rattle.hp_inode.proofs.Inode.drop_entries.Goals as goal

pub returns-in_default-clause-count : goal.returns-in_default-clause-count
returns-in_default-clause-count c = grind (arith, common_steps, none_in, entered_cells, length-cells)

pub returns-in_default-clause-cells : goal.returns-in_default-clause-cells
returns-in_default-clause-cells c =
    let len = c.in_default.field-0 in
    let within = rw (← c.self.view_is, c.in_default.is, length-cells len [] []) at c.requires.within in
    rw (← c.self.view_is, c.in_default.is)
    (dropped_cells len 0 [] [] [] c.args.a c.args.b (holes_kept c.in_default.is c.self.invariant) within (none_left c.args.a c.args.b))
