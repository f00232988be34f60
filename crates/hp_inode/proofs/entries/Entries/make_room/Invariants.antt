use Rattle.std.proofs.Common.{ℕ, ◌≡◌, ◌-◌, ◌<◌, ◌≤◌, max, true}
use Rattle.hp_inode.specs.Blocks.{entered_at, has_word_for}
use Rattle.hp_inode.proofs.entries.Entries.make_room.Given as goal

abbrev pub invariant-loop-at : goal.invariant-loop-at
invariant-loop-at l = record {
  from : l.a ≤ l.at;
  to : l.at ≤ max l.a l.b;
  same : (k : ℕ) → entered_at l.self k ≡ entered_at l.fn.self k;
  made : (k : ℕ) → l.a ≤ k → k < l.at → has_word_for l.self k ≡ true;
}

abbrev pub decreases-loop-at : goal.decreases-loop-at
decreases-loop-at l = l.b - l.at
