use Rattle.std.proofs.Common.{◌≡◌, ◌≤◌, take, count_by}
use Rattle.hp_model.proofs.Words.{has}
use Rattle.hp_nodes.proofs.rounds.having.Given as goal

abbrev pub invariant-loop-node : goal.invariant-loop-node
invariant-loop-node l = (l.count ≡ count_by (has l.kind) (take l.node-index l.nodes)) × (l.count ≤ l.node-index)
