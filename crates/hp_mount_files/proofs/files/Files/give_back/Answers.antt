use Rattle.std.proofs.lemmas.Grind.{common_steps}
use Rattle.std.proofs.Common.{arith}
use Rattle.hp_lookup.proofs.Staying.{files_stay}
use Rattle.hp_lookup.proofs.Views.{view}
use Rattle.hp_mount_files.proofs.files.Files.give_back.Goals as goal

pub returns-clause-going : goal.returns-clause-going
returns-clause-going g c = grind (arith, common_steps, files_stay, view)
