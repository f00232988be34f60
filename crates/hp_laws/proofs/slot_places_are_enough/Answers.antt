use Rattle.hp_laws.proofs.settled.Closing.{slot_places}
use Rattle.hp_laws.proofs.slot_places_are_enough.Goals as goal

pub returns : goal.returns
returns c = slot_places
