use Rattle.hp_tasks.proofs.Ordered.{found_for, gap_for}
use Rattle.hp_tasks.proofs.order.place_for.Goals as goal

pub returns-in-Ok : goal.returns-in-Ok
returns-in-Ok c = found_for c.args.tasks.now c.args.task c.requires c.in-Ok.at c.in-Ok.ensures.position

pub returns-in-Err : goal.returns-in-Err
returns-in-Err c = gap_for c.args.tasks.now c.args.task c.requires c.in-Err.at c.in-Err.ensures.position
