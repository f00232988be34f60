use Rattle.hp_laws.proofs.settled.Closing.{pool_places}
use Rattle.hp_laws.proofs.pool_places_are_enough.Goals as goal

pub returns : goal.returns
returns c = pool_places
