use Rattle.std.proofs.lemmas.Grind.{common_steps}
use Rattle.std.proofs.Common.{sym, ◌∙◌, arith}
use Rattle.hp_mount_laws.proofs.Making.{create_done, create_refused, create_without_memory}
use Rattle.hp_mount.proofs.mount.Mount.create.Goals as goal

pub returns-in-Some-clause-done : goal.returns-in-Some-clause-done
returns-in-Some-clause-done g c size k = create_refused c.args.self.now c.args.name.now size k c.in-Some.refusal (sym c.refused_file.ensures.first ∙ c.in-Some.is)

pub returns-in-Err-clause-done : goal.returns-in-Err-clause-done
returns-in-Err-clause-done g c size k = grind (arith, common_steps, create_without_memory)

pub returns-clause-done : goal.returns-clause-done
returns-clause-done g c size k = grind (arith, common_steps, create_done)
