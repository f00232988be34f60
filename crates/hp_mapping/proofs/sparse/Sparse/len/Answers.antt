use Rattle.std.proofs.lemmas.Grind.{common_steps}
use Rattle.std.proofs.Common.{arith}
use Rattle.hp_mapping.proofs.Chunked.{long}
use Rattle.hp_mapping.proofs.sparse.Sparse.len.Goals as goal

pub returns : goal.returns
returns c = grind (arith, common_steps, long)
