use Rattle.std.proofs.Common.{◌≡◌, None, take}
use Rattle.hp_lookup.proofs.Words.{least_among}
use Rattle.hp_file.proofs.FirstTask.{tasks_of}
use Rattle.hp_mount_files.proofs.files.Files.first_task.Given as goal

abbrev pub invariant-loop-at : goal.invariant-loop-at
invariant-loop-at g l = l.least ≡ least_among None (tasks_of (take l.at l.files.files))
