use Rattle.std.proofs.lemmas.Grind.{common_steps}
use Rattle.std.proofs.Common.{arith}
use Rattle.hp_mapping.proofs.Chunked.{get_none, place_is}
use Rattle.hp_mapping.proofs.sparse.Sparse.get.Goals as goal

pub returns-then-at-self-clause-none : goal.returns-then-at-self-clause-none
returns-then-at-self-clause-none c = grind (arith, common_steps, get_none)

pub returns-clause-some : goal.returns-clause-some
returns-clause-some c = grind (arith, common_steps, place_is)
