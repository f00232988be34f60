use Rattle.std.proofs.Common.{◌≡◌}
use Rattle.hp_inode.proofs.indices.Indices.settle.Given as goal

abbrev pub invariant-loop-at : goal.invariant-loop-at
invariant-loop-at l = l.self.cells ≡ l.fn.self.cells
