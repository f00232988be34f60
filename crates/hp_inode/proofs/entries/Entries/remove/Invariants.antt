use Rattle.std.proofs.Common.{ℕ, ◌≡◌, ◌-◌, ◌≤◌, max, not, ◌&&◌}
use Rattle.hp_model.proofs.Words.{within}
use Rattle.hp_inode.specs.Blocks.{entered_at, entered_count}
use Rattle.hp_inode.proofs.entries.Entries.remove.Given as goal

abbrev pub invariant-loop-at : goal.invariant-loop-at
invariant-loop-at l = record {
  from : l.a ≤ l.at;
  to : l.at ≤ max l.a l.b;
  counted : l.removed ≡ entered_count l.fn.self l.a l.at;
  left : (k : ℕ) → entered_at l.self k ≡ (entered_at l.fn.self k && not (within l.a l.at k));
}

abbrev pub decreases-loop-at : goal.decreases-loop-at
decreases-loop-at l = l.b - l.at
