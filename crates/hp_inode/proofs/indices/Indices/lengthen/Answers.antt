use Rattle.std.proofs.Common.{sym, ap, ◌∙◌, count_by}
use Rattle.hp_model.proofs.Words.{has_page}
use Rattle.hp_inode.specs.Kept.{cells_of}
use Rattle.hp_inode.proofs.Paged.{longer_paged}
use Rattle.hp_inode.proofs.Readying.{longer_cells, longer_kept}
use Rattle.hp_inode.proofs.indices.Indices.lengthen.Goals as goal

pub invariant_of-self : goal.invariant_of-self
invariant_of-self c =
    let s = c.self.inside in
    let kept = c.self.invariant.kept in
    record {
      kept = longer_kept s.len s.count s.entries s.table c.args.len c.max-self-inside.result kept c.requires c.max-self-inside.ensures;
      paged = c.self.invariant.paged ∙ sym (longer_paged c.args.len (cells_of s.len s.entries s.table))
          ∙ ap (count_by has_page) (sym (longer_cells s.len s.count s.entries s.table c.args.len c.max-self-inside.result kept c.requires
          c.max-self-inside.ensures));
      small = c.self.invariant.small;
      slots = c.self.invariant.slots;
      room = c.self.invariant.room;
    }

pub returns : goal.returns
returns c =
    let s = c.self.inside in
    rw (← c.self.view_is) (longer_cells s.len s.count s.entries s.table c.args.len c.max-self-inside.result c.self.invariant.kept c.requires c.max-self-inside.ensures)
