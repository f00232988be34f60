use Rattle.std.proofs.lemmas.Grind.{common_steps}
use Rattle.std.proofs.Common.{arith}
use Rattle.hp_file.proofs.Entering.{file_left}
use Rattle.hp_file.proofs.file.File.leave.Goals as goal

pub returns : goal.returns
returns c = grind (arith, common_steps, file_left)
