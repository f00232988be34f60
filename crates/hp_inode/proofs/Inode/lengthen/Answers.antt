use Rattle.std.proofs.Common.{◌≡◌, []}
use Rattle.hp_model.proofs.Words.{at_least}
use Rattle.hp_inode.specs.Form.{cells_in}
use Rattle.hp_inode.proofs.Bare.{holes_kept}
use Rattle.hp_inode.proofs.Readying.{longer_cells}
use Rattle.hp_inode.proofs.Inode.lengthen.Goals as goal
use Rattle.hp_inode.proofs.Inode.lengthen.Goals.{in-Holes, in-Kept}

pub returns : goal.returns
returns c = elim c.match-self.branch as (λ _. cells_in c.match-self.self-inside.form ≡ at_least c.args.len c.args.self.now) [
  | in-Holes w ↦ rw (w.self-inside-is, ← c.self.view_is, w.in-Holes.is)
      (longer_cells w.in-Holes.own 0 [] [] c.args.len w.max.result (holes_kept w.in-Holes.is c.self.invariant) c.requires w.max.ensures)
  | in-Kept w ↦ rw (w.self-inside-is, ← c.self.view_is, w.in-Kept.is, ← w.deref_mut.ensures.value) w.lengthen.ensures
]
