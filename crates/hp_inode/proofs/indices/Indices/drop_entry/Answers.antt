use Rattle.std.proofs.Common.{◌≡◌}
use Rattle.hp_model.specs.declared.cell.Cell.TheVariants.{Entered}
use Rattle.hp_model.proofs.Words.{cell_in}
use Rattle.hp_inode.specs.Kept.{cells_of}
use Rattle.hp_inode.proofs.CellFacts.{entered_cell}
use Rattle.hp_inode.proofs.Readying.{one_dropped, one_left, some_entered}
use Rattle.hp_inode.proofs.indices.Indices.drop_entry.Goals as goal

pub take_out-requires : goal.take_out-requires
take_out-requires c =
    let s = c.self.inside in
    let here : cell_in (cells_of s.len s.entries s.table) c.args.i ≡ Entered = rw (← c.self.view_is) at c.requires in
    entered_cell s.len s.count s.entries s.table c.self.invariant.kept c.args.i here

pub overflow_sub-self : goal.overflow_sub-self
overflow_sub-self c =
    let s = c.self.inside in
    let here : cell_in (cells_of s.len s.entries s.table) c.args.i ≡ Entered = rw (← c.self.view_is) at c.requires in
    some_entered s.len s.count s.pages s.entries c.take_out.new.self s.table c.args.i c.self.invariant.kept here c.take_out.ensures

pub invariant_of-self : goal.invariant_of-self
invariant_of-self c =
    let s = c.self.inside in
    let here : cell_in (cells_of s.len s.entries s.table) c.args.i ≡ Entered = rw (← c.self.view_is) at c.requires in
    one_left s.len s.count s.pages s.entries c.take_out.new.self s.table c.args.i c.self.invariant.kept here c.take_out.ensures c.self.invariant.paged s.from

pub returns : goal.returns
returns c =
    let s = c.self.inside in
    let here : cell_in (cells_of s.len s.entries s.table) c.args.i ≡ Entered = rw (← c.self.view_is) at c.requires in
    rw (← c.self.view_is) (one_dropped s.len s.count s.pages s.entries c.take_out.new.self s.table c.args.i c.self.invariant.kept here c.take_out.ensures)
