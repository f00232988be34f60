use Rattle.std.proofs.lemmas.Grind.{common_steps}
use Rattle.std.proofs.Common.{arith}
use Rattle.hp_lookup.proofs.Holes.{wanted_shown}
use Rattle.hp_lookup.proofs.Views.{files_len, read_is}
use Rattle.hp_mount_files.proofs.files.Files.wanted.Goals as goal

pub returns-in-Shared : goal.returns-in-Shared
returns-in-Shared g c = grind (arith, common_steps, wanted_shown, files_len, read_is)
