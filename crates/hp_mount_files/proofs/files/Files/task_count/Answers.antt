use Rattle.std.proofs.lemmas.Grind.{common_steps}
use Rattle.std.proofs.Common.{arith}
use Rattle.hp_lookup.proofs.Tallies.{tasks_tallied}
use Rattle.hp_lookup.proofs.Unique.{tasks_counted}
use Rattle.hp_mount_files.proofs.files.Files.task_count.Goals as goal

pub returns : goal.returns
returns g c = grind (arith, common_steps, tasks_tallied, tasks_counted)
