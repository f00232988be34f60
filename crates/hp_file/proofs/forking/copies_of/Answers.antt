use Rattle.std.proofs.lemmas.Grind.{common_steps}
use Rattle.std.proofs.Common.{arith}
use Rattle.hp_file.proofs.Sharing.{sum_end, sum_read}
use Rattle.hp_file.proofs.forking.copies_of.Goals as goal

pub loop-map-preserved : goal.loop-map-preserved
loop-map-preserved c few = grind (arith, common_steps, sum_read)

pub returns : goal.returns
returns c few = grind (arith, common_steps, sum_end)
