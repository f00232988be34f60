use Rattle.std.proofs.lemmas.Grind.{common_steps}
use Rattle.std.proofs.Common.{arith}
use Rattle.hp_mapping.proofs.Chunked.{get_touched, long, set_touched}
use Rattle.hp_mapping.proofs.sparse.Sparse.leave.Goals as goal

pub touch-slot-requires-clause-within : goal.touch-slot-requires-clause-within
touch-slot-requires-clause-within c = grind (arith, common_steps, long)

pub returns : goal.returns
returns c = record { left = grind (arith, common_steps, long, set_touched); freed_is = grind (arith, common_steps, get_touched, long) }
