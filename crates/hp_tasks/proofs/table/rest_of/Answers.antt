use Rattle.std.proofs.Common.{refl}
use Rattle.hp_tasks.specs.Table.{task_rest}
use Rattle.hp_tasks.proofs.table.rest_of.Goals as goal

pub returns-clause-rest : goal.returns-clause-rest
unfolding task_rest
returns-clause-rest c = refl
