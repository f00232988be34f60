use Rattle.hp_laws.proofs.settled.Closing.{table_places}
use Rattle.hp_laws.proofs.table_places_are_enough.Goals as goal

pub returns : goal.returns
returns c = table_places
