use Rattle.std.proofs.Common.{Ok, Some, ◌∷◌, ◌++◌, []}
use Rattle.hp_laws.proofs.Variants.{Done, ExitMaps}
use Rattle.hp_model.proofs.Words.{Choice, slot_event}
use Rattle.hp_system.proofs.Carries.{never_full}
use Rattle.hp_system.proofs.Ending.{exits_more}
use Rattle.hp_system.specs.Event.{IsExit}
use Rattle.hp_system.proofs.system.exit_all.Goals as goal

pub loop-task-preserved : goal.loop-task-preserved
loop-task-preserved g c =
    let was = c.loop-task.invariant.gone in
    let task = c.in-Some.task in
    let m = c.loop-task.mount in
    let p = c.loop-task.pool in
    let n = c.exit_maps.new.self in
    let q = c.exit_maps.new.door in
    let exit : IsExit task m p n q = record {
      some = c.in-Some.ensures.some.has;
      carried = λ size k. never_full (λ (x : Choice). slot_event size k x (Some m) (ExitMaps task)) (Some m) (Some n) p q (Ok Done) (c.exit_maps.ensures.done size k);
    } in
    record {
      gone = (was.0 ++ task ∷ [], exits_more was.0 task c.args.mount.now m n c.args.pool.now p q was.1 exit);
      ready = c.exit_maps.ensures.left;
    }
