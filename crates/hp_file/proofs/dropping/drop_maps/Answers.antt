use Rattle.std.proofs.lemmas.Grind.{common_steps}
use Rattle.std.proofs.Common.{arith}
use Rattle.hp_file.proofs.Counting.{dropped_as, dropped_then, left_held, none_dropped, part_held}
use Rattle.hp_file.proofs.Sharing.{sum_end, sum_read}
use Rattle.hp_file.proofs.dropping.drop_maps.Goals as goal

pub drop_map-requires : goal.drop_map-requires
drop_map-requires g c = grind (arith, common_steps, left_held, part_held, sum_read)

pub loop-map-init : goal.loop-map-init
loop-map-init g c = none_dropped c.requires

pub loop-map-preserved : goal.loop-map-preserved
loop-map-preserved g c = grind (arith, common_steps, dropped_then, sum_read)

pub returns : goal.returns
returns g c = grind (arith, common_steps, dropped_as, sum_end)
