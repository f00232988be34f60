use Rattle.std.proofs.lemmas.Grind.{common_steps}
use Rattle.std.proofs.Common.{arith}
use Rattle.std.proofs.lemmas.List.{take_all}
use Rattle.std.proofs.lemmas.List.Sums.{sum_by_more, sum_by_more_le}
use Rattle.hp_file.proofs.Counting.{none_shared, shared_more}
use Rattle.hp_file.proofs.forking.share_all.Goals as goal

pub share_map-requires-clause-held : goal.share_map-requires-clause-held
share_map-requires-clause-held g c = grind (arith, common_steps, sum_by_more_le)

pub share_map-requires-clause-few : goal.share_map-requires-clause-few
share_map-requires-clause-few g c = grind (arith, common_steps, sum_by_more_le)

pub loop-map-init : goal.loop-map-init
loop-map-init g c = none_shared c.requires.held

pub loop-map-preserved : goal.loop-map-preserved
loop-map-preserved g c = grind (arith, common_steps, sum_by_more, shared_more)

pub returns : goal.returns
returns g c = grind (arith, common_steps, take_all)
