use Rattle.hp_tasks.proofs.Ordered.{absent, found}
use Rattle.hp_tasks.proofs.order.find.Goals as goal

pub returns-in-Ok-clause-some : goal.returns-in-Ok-clause-some
returns-in-Ok-clause-some c = found c.args.tasks.now c.args.task c.requires c.in-Ok.at c.in-Ok.ensures.position

pub returns-in-Err-clause-none : goal.returns-in-Err-clause-none
returns-in-Err-clause-none c is = absent c.args.tasks.now c.args.task c.requires c.in-Err.field-0 c.in-Err.ensures.position
