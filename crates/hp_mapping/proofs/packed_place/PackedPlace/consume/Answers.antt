use Rattle.hp_mapping.proofs.Packed.{consumed_in}
use Rattle.hp_mapping.proofs.packed_place.PackedPlace.consume.Goals as goal

pub returns : goal.returns
returns c = rw (← c.self.view_is) (consumed_in c.self.inside.code)
