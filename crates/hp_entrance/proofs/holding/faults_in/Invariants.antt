use Rattle.std.proofs.Common.{take}
use Rattle.hp_shared.specs.Runs.{faults_of}
use Rattle.hp_entrance.specs.Runs.{AreFaultsOf}
use Rattle.hp_entrance.proofs.holding.faults_in.Given as goal

abbrev pub invariant-loop-done : goal.invariant-loop-done
invariant-loop-done l = AreFaultsOf (faults_of l.first.slot l.first l.intent) l.first.index (take l.done l.queue)
