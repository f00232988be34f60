use Rattle.std.proofs.Common.{◌≡◌, ℕ, drop, sym, ap, ◌∙◌, All, count_by}
use Rattle.hp_model.specs.declared.cell.Cell.{Cell}
use Rattle.hp_model.specs.declared.cell.Cell.TheVariants.{Hole}
use Rattle.hp_model.proofs.Words.{has_page}
use Rattle.hp_inode.specs.Kept.{cells_of}
use Rattle.hp_inode.proofs.CellFacts.{resized, resized_kept}
use Rattle.hp_inode.proofs.Paged.{resized_paged}
use Rattle.hp_inode.proofs.indices.Indices.set_len.Goals as goal

pub invariant_of-self : goal.invariant_of-self
invariant_of-self c =
    let s = c.self.inside in
    let holes : All (λ (c : Cell ℕ). c ≡ Hole) (drop c.args.len (cells_of s.len s.entries s.table)) = rw (← c.self.view_is) at c.requires.holes in
    record {
      kept = resized_kept _ _ _ _ c.self.invariant.kept c.args.len holes c.requires.small;
      paged = c.self.invariant.paged ∙ sym (resized_paged c.args.len (cells_of s.len s.entries s.table) holes) ∙ ap (count_by has_page) (sym (resized _ _ _ _ c.self.invariant.kept c.args.len holes));
      small = c.self.invariant.small;
      slots = c.self.invariant.slots;
      room = c.self.invariant.room;
    }

pub returns : goal.returns
returns c = rw (← c.self.view_is) (resized _ _ _ _ c.self.invariant.kept c.args.len (rw (← c.self.view_is) at c.requires.holes))
