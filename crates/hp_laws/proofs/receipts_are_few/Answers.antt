use Rattle.hp_laws.proofs.settled.FewEvents.{receipts_are_few}
use Rattle.hp_laws.proofs.receipts_are_few.Goals as goal

pub returns : goal.returns
returns c = receipts_are_few
