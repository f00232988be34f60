use Rattle.std.proofs.Common.{ℕ, ◌<◌, slice_index_or}
use Rattle.hp_model.specs.declared.node.NodeRow.{NodeRow}
use Rattle.hp_nodes.specs.Moves.{HasMany}
use Rattle.hp_nodes.proofs.rounds.least.Given as goal

abbrev pub invariant-loop-node : goal.invariant-loop-node
invariant-loop-node l = (k : ℕ) (d : NodeRow) → k < l.node-index → HasMany l.kind l.least (slice_index_or l.nodes k d)
