use Rattle.std.proofs.lemmas.Grind.{common_steps}
use Rattle.hp_mapping.proofs.Packed.{unconsumed_in}
use Rattle.std.proofs.Common.{arith}
use Rattle.hp_mapping.proofs.packed_place.PackedPlace.is_unconsumed.Goals as goal

pub returns-then-is_live : goal.returns-then-is_live
returns-then-is_live c = grind (arith, common_steps, unconsumed_in)
