use Rattle.std.proofs.Common.{ap, sym, ◌∙◌, ◌≡◌, ◌+◌, ◌-◌, arith, refl, rules, None, set, count_by}
use Rattle.hp_model.specs.declared.cell.Cell.TheVariants.{Hole, Entered}
use Rattle.hp_model.proofs.Words.{cell_in, edit_range, has_page}
use Rattle.hp_model.proofs.Editing.{edit_one}
use Rattle.hp_inode.specs.Kept.{cells_of}
use Rattle.hp_inode.proofs.CellFacts.{length-cells, page_at_cell, changed, changed_kept, has_page_cell}
use Rattle.hp_inode.proofs.Paged.{taken_paged}
use Rattle.std.proofs.lemmas.List.{get_or-set_same}
use Rattle.hp_inode.proofs.Taken.{no_page_there, found_no_page, found_page, paged_below}
use Rattle.hp_inode.proofs.indices.Indices.take_next.Goals as goal

pub returns-in_err-i : goal.returns-in_err-i
returns-in_err-i c =
    let none = found_no_page _ _ _ _ c.self.invariant.kept c.args.a c.args.b c.in_err-i.ensures.taken in
    record {
      page = rw (← c.self.view_is, none) c.from_residual.ensures;
      cells = rw (← c.self.view_is, none) (ap (cells_of c.self.inside.len c.self.inside.entries) (c.in_err-i.ensures.none refl));
      none = λ is. rw (c.in_err-i.ensures.none refl) (no_page_there _ _ _ _ c.self.invariant.kept c.args.a c.args.b c.in_err-i.ensures.taken);
    }

pub invariant_of-self-2 : goal.invariant_of-self-2
invariant_of-self-2 c =
    let s = c.self.inside in
    let taken = c.in_ok-i.ensures.taken in
    let here = c.self.invariant.kept.paged c.in_ok-i.i taken.first.here in
    let emptied = changed _ _ _ _ c.self.invariant.kept c.in_ok-i.i None _ here taken.here taken.others in
    let there = has_page_cell _ _ _ _ c.self.invariant.kept c.in_ok-i.i ∙ taken.first.here in
    let below = paged_below _ _ _ _ c.self.invariant.kept c.args.a c.args.b c.in_ok-i.i taken.first.here in
    let fewer = taken_paged (cells_of s.len s.entries s.table) c.in_ok-i.i there (omega (arith, below, length-cells s.len s.entries s.table)) in
    let same = ap (count_by has_page) emptied in
    record {
      kept = changed_kept _ _ _ _ c.self.invariant.kept c.in_ok-i.i None _ here taken.here taken.others c.in_ok-i.ensures.slots;
      paged = omega (arith, c.self.invariant.paged, fewer, same);
      small = c.self.invariant.small;
      slots = λ k low high. c.in_ok-i.ensures.slots k ∙ c.self.invariant.slots k low high;
      room = c.self.invariant.room;
    }

pub overflow_sub-self : goal.overflow_sub-self
overflow_sub-self c =
    let s = c.self.inside in
    let first = c.in_ok-i.ensures.taken.first in
    let there = has_page_cell _ _ _ _ c.self.invariant.kept c.in_ok-i.i ∙ first.here in
    let below = paged_below _ _ _ _ c.self.invariant.kept c.args.a c.args.b c.in_ok-i.i first.here in
    omega (arith, c.self.invariant.paged, taken_paged (cells_of s.len s.entries s.table) c.in_ok-i.i there (omega (arith, below, length-cells s.len s.entries s.table)))

pub drop_entry-requires : goal.drop_entry-requires
drop_entry-requires c =
    let taken = c.in_ok-i.ensures.taken in
    let below = paged_below _ _ _ _ c.self.invariant.kept c.args.a c.args.b c.in_ok-i.i taken.first.here in
    let emptied = changed _ _ _ _ c.self.invariant.kept c.in_ok-i.i None _ (c.self.invariant.kept.paged c.in_ok-i.i taken.first.here) taken.here taken.others in
    ap (λ cells. cell_in cells c.in_ok-i.i) emptied
    ∙ get_or-set_same _ c.in_ok-i.i Entered Hole (omega (arith, below, length-cells c.self.inside.len c.self.inside.entries c.self.inside.table))

pub returns : goal.returns
returns c =
    let xs = cells_of c.self.inside.len c.self.inside.entries c.self.inside.table in
    let taken = c.in_ok-i.ensures.taken in
    let there = found_page _ _ _ _ c.self.invariant.kept c.args.a c.args.b c.in_ok-i.i taken.first taken.below in
    let below = paged_below _ _ _ _ c.self.invariant.kept c.args.a c.args.b c.in_ok-i.i taken.first.here in
    let emptied = changed _ _ _ _ c.self.invariant.kept c.in_ok-i.i None _ (c.self.invariant.kept.paged c.in_ok-i.i taken.first.here) taken.here taken.others in
    let back : c.in_ok-i.i ≡ c.args.a + (c.in_ok-i.i - c.args.a) = omega (arith, taken.first.from) in
    record {
      page = rw (← c.self.view_is, there) (sym taken.was ∙ page_at_cell _ _ _ _ c.self.invariant.kept c.in_ok-i.i);
      cells = rw (← c.self.view_is, there)
          (c.drop_entry.ensures ∙ ap (edit_range (λ cell. Hole) c.in_ok-i.i (c.in_ok-i.i + 1)) emptied
          ∙ edit_one xs c.in_ok-i.i Entered Hole (omega (arith, below, length-cells c.self.inside.len c.self.inside.entries c.self.inside.table))
          ∙ ap (λ k. set xs k Hole) back);
      none = search rules;
    }
