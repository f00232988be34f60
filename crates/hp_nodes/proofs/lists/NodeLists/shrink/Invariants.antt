use Rattle.std.proofs.Common.{◌-◌}
use Rattle.hp_model.proofs.Words.{shrunk}
use Rattle.hp_nodes.specs.Moves.{shrink_by}
use Rattle.hp_nodes.proofs.Sums.{AreDone}
use Rattle.hp_nodes.proofs.lists.NodeLists.shrink.Given as goal

abbrev pub invariant-loop-done : goal.invariant-loop-done
invariant-loop-done g l = AreDone shrunk shrink_by l.done l.count l.initial.self l.self

abbrev pub decreases-loop-done : goal.decreases-loop-done
decreases-loop-done g l = l.count - l.done
