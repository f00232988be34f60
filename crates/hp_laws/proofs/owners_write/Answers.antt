use Rattle.hp_laws.proofs.accesses.Reserved.{copy_keeps}
use Rattle.hp_laws.proofs.owners_write.Goals as goal

pub returns : goal.returns
returns c = copy_keeps
