use Rattle.std.proofs.lemmas.Grind.{common_steps}
use Rattle.std.proofs.Common.{arith}
use Rattle.hp_store.proofs.Room.{changed, held_some}
use Rattle.hp_store.proofs.store.PageStore.write.Goals as goal

pub returns : goal.returns
returns g c = grind (arith, common_steps, changed, held_some)
