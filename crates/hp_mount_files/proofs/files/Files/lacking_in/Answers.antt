use Rattle.std.proofs.lemmas.Grind.{common_steps}
use Rattle.std.proofs.Common.{arith}
use Rattle.hp_file.proofs.Filling.{lacking_shown}
use Rattle.hp_lookup.proofs.Views.{files_len, read_is}
use Rattle.hp_mount_files.proofs.files.Files.lacking_in.Goals as goal

pub returns : goal.returns
returns g c = grind (arith, common_steps, lacking_shown, files_len, read_is)
