use Rattle.hp_laws.proofs.promises.Listing.{names_are_listed}
use Rattle.hp_laws.proofs.names_are_listed.Goals as goal

pub returns : goal.returns
returns c = names_are_listed
