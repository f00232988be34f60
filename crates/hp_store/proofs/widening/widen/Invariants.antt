use Rattle.std.proofs.Common.{◌≡◌, ◌+◌, ◌++◌, reverse, vec_capacity, vec_len}
use Rattle.hp_store.proofs.widening.widen.Given as goal

abbrev pub invariant-loop-value : goal.invariant-loop-value
invariant-loop-value g l = record {
  items : l.list.items ++ reverse l.values.items ≡ l.fn.list.items;
  lengths : vec_len l.list + vec_len l.values ≡ vec_len l.fn.list;
  capacity : vec_capacity l.list ≡ l.wanted;
}

abbrev pub decreases-loop-value : goal.decreases-loop-value
decreases-loop-value g l = goal.left-loop-value g l
