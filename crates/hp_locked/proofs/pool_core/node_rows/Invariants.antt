use Rattle.std.proofs.Common.{◌≡◌, ◌-◌, ◌++◌, map, replicate, take}
use Rattle.hp_model.proofs.Words.{no_count, node_count}
use Rattle.hp_locked.proofs.pool_core.node_rows.Given as goal

abbrev pub invariant-loop-node : goal.invariant-loop-node
invariant-loop-node g l = l.rows ≡ map node_count (take l.node l.fn.pool.nodes.rows) ++ replicate (4 - l.node) no_count
