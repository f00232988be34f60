use Rattle.std.proofs.lemmas.Grind.{common_steps}
use Rattle.std.proofs.Common.{arith}
use Rattle.hp_file.proofs.Drops.{drop_start}
use Rattle.hp_lookup.proofs.Tallies.{maps_labelled, none_leave}
use Rattle.hp_file.proofs.leaving.drop_some_maps_of.Goals as goal

pub returns-then-count-eq0 : goal.returns-then-count-eq0
returns-then-count-eq0 g c = grind (arith, common_steps, drop_start, maps_labelled, none_leave)
