use Rattle.std.proofs.lemmas.Grind.{common_steps}
use Rattle.std.proofs.Common.{arith}
use Rattle.std.proofs.lemmas.Grind.{get_or_default_zero}
use Rattle.std.proofs.lemmas.List.{get_or-map, length-map}
use Rattle.hp_file.proofs.Listed.{same_room, set_files}
use Rattle.hp_file.proofs.file_list.FileListIndexMutUsize.index_mut.Goals as goal

pub returns : goal.returns
returns c = grind (arith, common_steps, get_or_default_zero, get_or-map, length-map, same_room, set_files)
