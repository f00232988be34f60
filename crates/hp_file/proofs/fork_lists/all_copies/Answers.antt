use Rattle.std.proofs.lemmas.Grind.{common_steps}
use Rattle.std.proofs.Common.{[], arith, refl}
use Rattle.hp_lookup.proofs.Words.{list_copies}
use Rattle.hp_file.proofs.Joining.{spread_sum}
use Rattle.hp_file.proofs.Sharing.{sum_end, sum_read}
use Rattle.hp_file.proofs.fork_lists.all_copies.Goals as goal

pub loop-maps-preserved : goal.loop-maps-preserved
loop-maps-preserved c few = grind (arith, common_steps, sum_read)

pub returns : goal.returns
returns c few = (let all = spread_sum list_copies refl [] c.args.lists.now in grind (arith, common_steps, sum_end, all))
