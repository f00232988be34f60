use Rattle.std.proofs.lemmas.Grind.{common_steps}
use Rattle.std.proofs.Common.{arith}
use Rattle.hp_lookup.proofs.Holes.{asked_alone}
use Rattle.hp_lookup.proofs.next_map.MapRange.wanted_alone.Goals as goal

pub returns-in-Reserve-clause-alone : goal.returns-in-Reserve-clause-alone
returns-in-Reserve-clause-alone c = grind (arith, common_steps, asked_alone)
