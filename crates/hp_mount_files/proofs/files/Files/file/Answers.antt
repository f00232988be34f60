use Rattle.std.proofs.lemmas.Grind.{common_steps}
use Rattle.std.proofs.Common.{arith}
use Rattle.hp_lookup.proofs.Views.{file_read}
use Rattle.hp_mount_files.proofs.files.Files.file.Goals as goal

pub returns : goal.returns
returns g c = grind (arith, common_steps, file_read)
