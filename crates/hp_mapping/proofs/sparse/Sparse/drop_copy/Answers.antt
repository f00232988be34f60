use Rattle.std.proofs.lemmas.Grind.{common_steps}
use Rattle.std.proofs.Common.{arith}
use Rattle.hp_mapping.proofs.Chunked.{copied_own, place_is, set_place, some_within}
use Rattle.hp_mapping.proofs.sparse.Sparse.drop_copy.Goals as goal

pub slot_of-slot-requires : goal.slot_of-slot-requires
slot_of-slot-requires c = grind (arith, common_steps, some_within)

pub returns : goal.returns
returns c = grind (arith, common_steps, copied_own, place_is, set_place, some_within)
