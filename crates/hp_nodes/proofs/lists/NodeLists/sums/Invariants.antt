use Rattle.std.proofs.Common.{◌≡◌, ◌≤◌, ◌*◌, take}
use Rattle.hp_model.proofs.Words.{sum_row}
use Rattle.hp_nodes.proofs.lists.NodeLists.sums.Given as goal

abbrev pub invariant-loop-node : goal.invariant-loop-node
invariant-loop-node g l = record {
  summed : l.sums ≡ sum_row (take l.node-index l.node-items);
  free : l.sums.free ≤ l.sums.total;
  surp : l.sums.surp ≤ l.sums.total;
  total : l.sums.total ≤ l.sums.frames;
  few : l.sums.frames ≤ 65536 * l.node-index;
}
