use Rattle.std.proofs.Common.{◌≡◌}
use Rattle.hp_model.specs.declared.node.Kind.TheVariants.{Free}
use Rattle.hp_nodes.specs.Moves.{where_has, shrink_by}
use Rattle.hp_nodes.proofs.Each.{changed_before}
use Rattle.hp_nodes.proofs.rounds.shrink_each.Given as goal

abbrev pub invariant-loop-node : goal.invariant-loop-node
invariant-loop-node l = l.nodes ≡ changed_before l.node-index (where_has Free (shrink_by l.count)) l.initial.nodes
