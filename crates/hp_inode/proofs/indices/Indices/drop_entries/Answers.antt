use Rattle.std.proofs.lemmas.Grind.{common_steps}
use Rattle.std.proofs.Common.{ap, sym, ◌∙◌, ◌≡◌, ℕ, false, arith, All, count_by}
use Rattle.hp_model.specs.declared.cell.Cell.{Cell}
use Rattle.hp_model.proofs.Words.{has_page, part}
use Rattle.hp_inode.specs.Kept.{cells_of}
use Rattle.hp_inode.proofs.Paged.{dropped_paged}
use Rattle.hp_inode.proofs.CellFacts.{length-cells, entered_cells}
use Rattle.hp_inode.proofs.Dropped.{dropped_cells, dropped_kept, count_few}
use Rattle.hp_inode.proofs.Readying.{unready}
use Rattle.hp_inode.proofs.indices.Indices.drop_entries.Goals as goal

pub overflow_sub-self : goal.overflow_sub-self
overflow_sub-self c =
    let long = length-cells c.self.inside.len c.self.inside.entries c.self.inside.table in
    let within = rw (← c.self.view_is, long) at c.requires.within in
    omega (arith, count_few _ _ _ _ c.args.a c.args.b c.self.invariant.kept within, c.remove-count.ensures.count)

pub invariant_of-self : goal.invariant_of-self
invariant_of-self c =
    let s = c.self.inside in
    let within = rw (← c.self.view_is, length-cells s.len s.entries s.table) at c.requires.within in
    let none : All (λ (c : Cell ℕ). has_page c ≡ false) (part c.args.a c.args.b (cells_of s.len s.entries s.table)) = rw (← c.self.view_is) at c.requires.pageless in
    unready _ _ _ _ _ _
    (dropped_kept _ _ _ _ _ c.args.a c.args.b c.self.invariant.kept within c.remove-count.ensures.left none c.remove-count.result c.remove-count.ensures.count)
    (c.self.invariant.paged ∙ sym (dropped_paged c.args.a c.args.b (cells_of s.len s.entries s.table) none)
    ∙ ap (count_by has_page) (sym (dropped_cells _ _ _ c.remove-count.new.self _ c.args.a c.args.b c.self.invariant.kept within
    c.remove-count.ensures.left)))

pub returns-clause-count : goal.returns-clause-count
returns-clause-count c = grind (arith, common_steps, length-cells, entered_cells)

pub returns-clause-cells : goal.returns-clause-cells
returns-clause-cells c =
    let within = rw (← c.self.view_is, length-cells c.self.inside.len c.self.inside.entries c.self.inside.table) at c.requires.within in
    rw (← c.self.view_is) (c.settle.ensures ∙ dropped_cells _ _ _ c.remove-count.new.self _ c.args.a c.args.b c.self.invariant.kept within c.remove-count.ensures.left)
