use Rattle.std.proofs.lemmas.Grind.{common_steps}
use Rattle.std.proofs.Common.{arith}
use Rattle.hp_lookup.proofs.Unique.{maps_counted}
use Rattle.hp_mount_files.proofs.files.Files.map_count.Goals as goal

pub returns : goal.returns
returns g c = grind (arith, common_steps, maps_counted)
