use Rattle.std.proofs.Common.{length}
use Rattle.hp_model.proofs.Words.{maps_of}
use Rattle.hp_mount_door.specs.Door.{IsReady}
use Rattle.hp_system.specs.Event.{AllExit}
use Rattle.hp_system.proofs.system.exit_all.Given as goal

abbrev pub invariant-loop-task : goal.invariant-loop-task
invariant-loop-task g l = record {
  gone : AllExit l.fn.mount l.fn.pool l.mount l.pool;
  ready : IsReady l.pool;
}

abbrev pub decreases-loop-task : goal.decreases-loop-task
decreases-loop-task g l = length (maps_of l.mount)
