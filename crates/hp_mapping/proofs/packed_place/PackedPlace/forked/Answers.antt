use Rattle.hp_mapping.proofs.Packed.{forked_in}
use Rattle.hp_mapping.proofs.packed_place.PackedPlace.forked.Goals as goal

pub returns : goal.returns
returns c = rw (← c.self.view_is) (forked_in c.self.inside.code)
