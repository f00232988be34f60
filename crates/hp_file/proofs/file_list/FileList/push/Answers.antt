use Rattle.std.proofs.lemmas.Grind.{common_steps}
use Rattle.std.proofs.Common.{arith}
use Rattle.hp_file.proofs.Listed.{pushed_files}
use Rattle.hp_file.proofs.file_list.FileList.push.Goals as goal

pub returns : goal.returns
returns c = grind (arith, common_steps, pushed_files)
