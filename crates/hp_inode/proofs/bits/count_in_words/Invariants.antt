use Rattle.std.proofs.Common.{◌≡◌, ◌*◌, ◌/◌, ◌≤◌, ◌-◌, length, count_by}
use Rattle.std.specs.List.{range_with_len}
use Rattle.hp_inode.proofs.Spread.{ours}
use Rattle.hp_inode.proofs.bits.count_in_words.Given as goal

abbrev pub invariant-loop-next : goal.invariant-loop-next
invariant-loop-next l = record {
  from : l.a / 64 ≤ l.at;
  counted : l.count ≡ count_by (ours l.words l.a l.b) (range_with_len 0 (64 * l.at));
}

abbrev pub decreases-loop-next : goal.decreases-loop-next
decreases-loop-next l = length l.words - l.at
