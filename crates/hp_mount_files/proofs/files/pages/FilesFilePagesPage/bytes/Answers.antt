use Rattle.std.proofs.lemmas.Grind.{common_steps}
use Rattle.std.proofs.Common.{arith}
use Rattle.hp_lookup.proofs.Views.{bytes_same, no_page_bytes, page_bytes}
use Rattle.hp_mount_files.proofs.files.pages.FilesFilePagesPage.bytes.Goals as goal

pub returns-in-Some-clause-some : goal.returns-in-Some-clause-some
returns-in-Some-clause-some g c = grind (arith, common_steps, bytes_same, page_bytes)

pub returns-in-None-clause-none : goal.returns-in-None-clause-none
returns-in-None-clause-none g c = grind (arith, common_steps, no_page_bytes)
