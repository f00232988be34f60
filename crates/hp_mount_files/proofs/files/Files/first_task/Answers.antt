use Rattle.std.proofs.lemmas.Grind.{common_steps}
use Rattle.std.proofs.Common.{arith}
use Rattle.hp_file.proofs.FirstTask.{all_tasks_are, first_none, first_some}
use Rattle.hp_mount_files.proofs.files.Files.first_task.Goals as goal

pub returns-clause-some : goal.returns-clause-some
returns-clause-some g c = grind (arith, common_steps, all_tasks_are, first_some)

pub returns-clause-none : goal.returns-clause-none
returns-clause-none g c = grind (arith, common_steps, all_tasks_are, first_none)
