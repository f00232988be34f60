use Rattle.std.proofs.lemmas.Grind.{common_steps}
use Rattle.std.proofs.Common.{arith}
use Rattle.hp_mapping.proofs.MarkedPlaces.{counted_bare}
use Rattle.hp_mapping.proofs.places.Places.drop_copy.Goals as goal

pub invariant_of-self : goal.invariant_of-self
invariant_of-self c = grind (arith, common_steps, counted_bare)
