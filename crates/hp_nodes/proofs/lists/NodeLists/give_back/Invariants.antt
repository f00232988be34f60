use Rattle.std.proofs.Common.{◌-◌}
use Rattle.hp_model.proofs.Words.{given_back}
use Rattle.hp_nodes.specs.Moves.{give_back_by}
use Rattle.hp_nodes.proofs.Sums.{AreDone}
use Rattle.hp_nodes.proofs.lists.NodeLists.give_back.Given as goal

abbrev pub invariant-loop-done : goal.invariant-loop-done
invariant-loop-done g l = AreDone given_back give_back_by l.done l.count l.initial.self l.self

abbrev pub decreases-loop-done : goal.decreases-loop-done
decreases-loop-done g l = l.count - l.done
