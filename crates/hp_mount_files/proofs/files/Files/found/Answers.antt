use Rattle.std.proofs.lemmas.Grind.{common_steps}
use Rattle.std.proofs.Common.{arith}
use Rattle.hp_lookup.proofs.Views.{map_seen, page_lent, page_shows, present_shown}
use Rattle.hp_mount_files.proofs.Here.{file_inside, map_inside}
use Rattle.hp_mount_files.proofs.Lent.{page_readable}
use Rattle.hp_mount_files.proofs.files.Files.found.Goals as goal

pub index-file-requires : goal.index-file-requires
index-file-requires g c = grind (arith, common_steps, file_inside)

pub map-map-requires : goal.map-map-requires
map-map-requires g c = grind (arith, common_steps, map_inside)

pub returns-in-Some-page_at-clause-readable : goal.returns-in-Some-page_at-clause-readable
returns-in-Some-page_at-clause-readable g c = grind (arith, common_steps, map_seen, present_shown, page_readable)

pub returns-in-Some-page_at-clause-shown : goal.returns-in-Some-page_at-clause-shown
returns-in-Some-page_at-clause-shown g c = grind (arith, common_steps, page_lent, page_shows)
