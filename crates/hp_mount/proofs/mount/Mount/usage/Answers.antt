use Rattle.std.proofs.lemmas.Grind.{common_steps}
use Rattle.std.proofs.Common.{arith}
use Rattle.hp_mount_laws.proofs.Making.{usage_alone}
use Rattle.hp_mount.proofs.mount.Mount.usage.Goals as goal

pub returns-clause-done : goal.returns-clause-done
returns-clause-done g c size k = grind (arith, common_steps, usage_alone)
