use Rattle.std.proofs.lemmas.Grind.{common_steps}
use Rattle.std.proofs.Common.{arith}
use Rattle.hp_mount_files.proofs.LowerRoom.{lower_view}
use Rattle.hp_mount_files.proofs.files.Files.lower_room.Goals as goal

pub returns : goal.returns
returns g c = grind (arith, common_steps, lower_view)
