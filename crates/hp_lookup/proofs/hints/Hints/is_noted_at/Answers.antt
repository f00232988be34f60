use Rattle.std.proofs.lemmas.Grind.{common_steps}
use Rattle.std.proofs.Common.{arith}
use Rattle.std.proofs.lemmas.Option.{slice_get-map}
use Rattle.std.proofs.lemmas.Slice.Eq.{bytes_eq-Decides}
use Rattle.hp_lookup.proofs.hints.Hints.is_noted_at.Goals as goal

pub returns-in-Some : goal.returns-in-Some
returns-in-Some c same = grind (arith, common_steps, slice_get-map, bytes_eq-Decides)
