use Rattle.std.proofs.Common.{◌≡◌, ◌+◌, ◌-◌, ◌≤◌}
use Rattle.hp_inode.specs.Chunks.{ArePromised, slotted_count, used_count}
use Rattle.hp_inode.proofs.chunk_list.promise.Given as goal

abbrev pub invariant-loop-at : goal.invariant-loop-at
invariant-loop-at l = record {
  promised : ArePromised l.from l.at l.fn.homes.items l.homes.items;
  counted : slotted_count l.homes.items ≡ slotted_count l.fn.homes.items + l.count;
  used : used_count l.homes.items ≡ used_count l.fn.homes.items;
  few : l.count ≤ l.at - l.from;
}
