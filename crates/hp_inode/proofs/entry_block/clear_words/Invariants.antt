use Rattle.std.proofs.Common.{◌*◌, ◌-◌, ◌≤◌}
use Rattle.hp_inode.specs.EntryBlock.{IsRemoved}
use Rattle.hp_inode.proofs.entry_block.clear_words.Given as goal

abbrev pub invariant-loop-at : goal.invariant-loop-at
invariant-loop-at l = record {
  from : l.from ≤ l.at;
  within : l.at ≤ l.end;
  removed : IsRemoved (64 * l.from) (64 * l.at) l.fn.words l.words l.count;
}

abbrev pub decreases-loop-at : goal.decreases-loop-at
decreases-loop-at l = l.end - l.at
