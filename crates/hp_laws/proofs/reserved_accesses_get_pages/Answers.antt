use Rattle.hp_laws.proofs.accesses.Reserved.{reserved_access}
use Rattle.hp_laws.proofs.reserved_accesses_get_pages.Goals as goal

pub returns : goal.returns
returns c = reserved_access
