use Rattle.std.proofs.Common.{◌≡◌}
use Rattle.hp_model.proofs.Words.{cells_to}
use Rattle.hp_inode.specs.Form.{cells_in}
use Rattle.hp_inode.proofs.Bare.{holes_kept}
use Rattle.hp_inode.proofs.CellFacts.{resized}
use Rattle.hp_inode.proofs.Inode.set_len.Goals as goal
use Rattle.hp_inode.proofs.Inode.set_len.Goals.{in-Holes, in-Kept}

pub returns : goal.returns
returns c = elim c.match-self-2.branch as (λ _. cells_in c.match-self-2.self-inside.form ≡ cells_to c.args.len c.args.self.now) [
  | in-Holes w ↦ rw (w.self-inside-is, ← c.self.view_is, w.in-Holes.is)
      (resized _ _ _ _ (holes_kept w.in-Holes.is c.self.invariant) c.args.len (rw (← c.self.view_is, w.in-Holes.is) at c.requires.holes))
  | in-Kept w ↦ rw (w.self-inside-is, ← c.self.view_is, w.in-Kept.is, ← w.deref_mut.ensures.value) w.set_len.ensures
]
