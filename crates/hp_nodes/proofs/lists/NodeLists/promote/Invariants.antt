use Rattle.std.proofs.Common.{◌-◌}
use Rattle.hp_model.proofs.Words.{promoted}
use Rattle.hp_nodes.specs.Moves.{promote_by}
use Rattle.hp_nodes.proofs.Sums.{AreDone}
use Rattle.hp_nodes.proofs.lists.NodeLists.promote.Given as goal

abbrev pub invariant-loop-done : goal.invariant-loop-done
invariant-loop-done g l = AreDone promoted promote_by l.done l.count l.initial.self l.self

abbrev pub decreases-loop-done : goal.decreases-loop-done
decreases-loop-done g l = l.count - l.done
