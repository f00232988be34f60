use Rattle.std.proofs.lemmas.Grind.{common_steps}
use Rattle.std.proofs.Common.{arith}
use Rattle.hp_lookup.proofs.Views.{page_lent, page_shows, zeros_show}
use Rattle.hp_mount_files.proofs.Here.{file_inside, map_inside}
use Rattle.hp_mount_files.proofs.files.private.FilesMapPagesPage.shown.Goals as goal

pub index-file-requires : goal.index-file-requires
index-file-requires g c = grind (arith, common_steps, file_inside)

pub map-map-requires : goal.map-map-requires
map-map-requires g c = grind (arith, common_steps, map_inside)

pub returns-in-Some-page_at-clause-some : goal.returns-in-Some-page_at-clause-some
returns-in-Some-page_at-clause-some g c = grind (arith, common_steps, page_lent, page_shows)

pub returns-in-None-page_at-clause-none : goal.returns-in-None-page_at-clause-none
returns-in-None-page_at-clause-none g c = grind (arith, common_steps, zeros_show)
