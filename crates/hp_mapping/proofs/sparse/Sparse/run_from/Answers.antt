use Rattle.std.proofs.lemmas.Grind.{common_steps}
use Rattle.std.proofs.Common.{arith}
use Rattle.hp_mapping.proofs.Chunked.{is_run, some_within}
use Rattle.hp_mapping.proofs.sparse.Sparse.run_from.Goals as goal

pub slot_of-slot-requires : goal.slot_of-slot-requires
slot_of-slot-requires c = grind (arith, common_steps, some_within)

pub overflow_sub-self-inside : goal.overflow_sub-self-inside
overflow_sub-self-inside c = grind (arith, common_steps, some_within)

pub returns : goal.returns
returns c = grind (arith, common_steps, is_run, some_within)
