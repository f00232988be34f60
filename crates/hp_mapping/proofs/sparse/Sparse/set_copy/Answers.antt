use Rattle.std.proofs.lemmas.Grind.{common_steps}
use Rattle.std.proofs.Common.{◌≡◌, Bool, true, false, not, refl, arith}
use Rattle.hp_mapping.proofs.Chunked.{get_touched, long, set_touched}
use Rattle.hp_mapping.proofs.sparse.Sparse.set_copy.Goals as goal

twice : (b : Bool) → b ≡ not (not b)
twice true = refl
twice false = refl

pub touch-slot-requires-clause-within : goal.touch-slot-requires-clause-within
touch-slot-requires-clause-within c = grind (arith, common_steps, long)

pub returns : goal.returns
returns c = record {
  set = grind (arith, common_steps, get_touched, long, set_touched);
  bare_is = grind (arith, common_steps, get_touched, long, twice);
  few = grind (arith, common_steps, long);
}
