use Rattle.std.proofs.Common.{ℕ, ◌≡◌, ◌-◌, ◌<◌, ◌≤◌, max, true, ◌||◌}
use Rattle.hp_model.proofs.Words.{within}
use Rattle.hp_inode.specs.Blocks.{entered_at, has_word_for}
use Rattle.hp_inode.proofs.entries.Entries.add.Given as goal

abbrev pub invariant-loop-at : goal.invariant-loop-at
invariant-loop-at l = record {
  from : l.a ≤ l.at;
  to : l.at ≤ max l.a l.b;
  done : (k : ℕ) → entered_at l.self k ≡ (entered_at l.fn.self k || within l.a l.at k);
  room : (k : ℕ) → l.at ≤ k → k < l.b → has_word_for l.self k ≡ true;
}

abbrev pub decreases-loop-at : goal.decreases-loop-at
decreases-loop-at l = l.b - l.at
