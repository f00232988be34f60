use Rattle.hp_laws.proofs.promises.Promised.{promised}
use Rattle.hp_laws.proofs.promises_are_kept.Goals as goal

pub returns : goal.returns
returns c = promised
