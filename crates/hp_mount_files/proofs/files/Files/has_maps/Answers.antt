use Rattle.std.proofs.lemmas.Grind.{common_steps}
use Rattle.std.proofs.Common.{arith}
use Rattle.hp_lookup.proofs.Tallies.{has_some}
use Rattle.hp_mount_files.proofs.files.Files.has_maps.Goals as goal

pub returns : goal.returns
returns g c = grind (arith, common_steps, has_some)
