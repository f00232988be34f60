use Rattle.std.proofs.lemmas.Grind.{common_steps}
use Rattle.std.proofs.Common.{arith}
use Rattle.hp_file.proofs.Entering.{room_view}
use Rattle.hp_lookup.proofs.Stored.{stored_pages}
use Rattle.hp_mount_files.proofs.files.pages.FilesFilePagesPage.make_room.Goals as goal

pub returns-clause-ok : goal.returns-clause-ok
returns-clause-ok g c = grind (arith, common_steps, room_view)

pub returns-clause-few : goal.returns-clause-few
returns-clause-few g c = grind (arith, common_steps, stored_pages)
