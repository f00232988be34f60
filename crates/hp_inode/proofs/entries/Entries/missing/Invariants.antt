use Rattle.std.proofs.Common.{◌≡◌, ◌-◌, ◌≤◌, max}
use Rattle.hp_inode.specs.Blocks.{missing_count}
use Rattle.hp_inode.proofs.entries.Entries.missing.Given as goal

abbrev pub invariant-loop-at : goal.invariant-loop-at
invariant-loop-at l = record {
  from : l.a ≤ l.at;
  to : l.at ≤ max l.a l.b;
  counted : l.missing ≡ missing_count l.self l.a l.at;
}

abbrev pub decreases-loop-at : goal.decreases-loop-at
decreases-loop-at l = l.b - l.at
