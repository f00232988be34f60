use Rattle.std.proofs.Common.{◌≡◌, ◌-◌, ◌≤◌, max, count_by, is_some}
use Rattle.std.specs.List.{range_with_len}
use Rattle.hp_inode.specs.Blocks.{page_at}
use Rattle.hp_inode.proofs.table.PageTable.count.Given as goal

abbrev pub invariant-loop-at : goal.invariant-loop-at
invariant-loop-at l = record {
  from : l.a ≤ l.at;
  to : l.at ≤ max l.a l.b;
  counted : l.count ≡ count_by (λ k. is_some (page_at l.self k)) (range_with_len l.a (l.at - l.a));
}

abbrev pub decreases-loop-at : goal.decreases-loop-at
decreases-loop-at l = l.b - l.at
