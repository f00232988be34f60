use Rattle.std.proofs.lemmas.Grind.{common_steps}
use Rattle.std.proofs.Common.{◌+◌, Some, sym, ap, ◌∙◌, arith, count_by}
use Rattle.std.proofs.lemmas.List.Sums.{count_by-le-length}
use Rattle.hp_model.proofs.Words.{has_page}
use Rattle.hp_inode.specs.Kept.{cells_of}
use Rattle.hp_inode.proofs.CellFacts.{entered_cell, changed, changed_kept, length-cells}
use Rattle.hp_inode.proofs.Paged.{filled_paged}
use Rattle.hp_inode.proofs.indices.Indices.fill.Goals as goal

pub fill-requires : goal.fill-requires
fill-requires c = c.self.invariant.kept.slots c.args.i (entered_cell _ _ _ _ c.self.invariant.kept c.args.i (rw (← c.self.view_is) at c.requires))

pub invariant_of-self : goal.invariant_of-self
invariant_of-self c =
    let entered = entered_cell _ _ _ _ c.self.invariant.kept c.args.i (rw (← c.self.view_is) at c.requires) in
    let s = c.self.inside in
    let new = changed _ _ _ _ c.self.invariant.kept c.args.i (Some c.args.page) _ entered c.fill.ensures.here c.fill.ensures.others in
    record {
      kept = changed_kept _ _ _ _ c.self.invariant.kept c.args.i (Some c.args.page) _ entered c.fill.ensures.here c.fill.ensures.others c.fill.ensures.slots;
      paged = ap (λ n. n + 1) c.self.invariant.paged ∙ sym (filled_paged (cells_of s.len s.entries s.table) c.args.i c.args.page
          (rw (← c.self.view_is) at c.requires)) ∙ ap (count_by has_page) (sym new);
      small = c.self.invariant.small;
      slots = λ k low high. c.fill.ensures.slots k ∙ c.self.invariant.slots k low high;
      room = c.self.invariant.room;
    }

pub overflow_add-self : goal.overflow_add-self
overflow_add-self c = grind (arith, common_steps, count_by-le-length, length-cells)

pub returns : goal.returns
returns c =
    let entered = entered_cell _ _ _ _ c.self.invariant.kept c.args.i (rw (← c.self.view_is) at c.requires) in
    rw (← c.self.view_is) (changed _ _ _ _ c.self.invariant.kept c.args.i (Some c.args.page) _ entered c.fill.ensures.here c.fill.ensures.others)
