use Rattle.std.proofs.lemmas.Grind.{common_steps}
use Rattle.std.proofs.Common.{sym, arith}
use Rattle.std.proofs.lemmas.List.{take_all}
use Rattle.hp_file.proofs.FirstTask.{next_map, none_yet}
use Rattle.hp_file.proofs.file.File.least_task.Goals as goal

pub loop-map-init : goal.loop-map-init
loop-map-init c = sym (none_yet c.args.known c.as_slice-maps.result.now)

pub loop-map-preserved : goal.loop-map-preserved
loop-map-preserved c = grind (arith, common_steps, next_map)

pub returns : goal.returns
returns c = grind (arith, common_steps, take_all)
