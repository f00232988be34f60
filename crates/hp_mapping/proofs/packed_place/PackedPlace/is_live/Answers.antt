use Rattle.hp_mapping.proofs.Packed.{live_in}
use Rattle.hp_mapping.proofs.packed_place.PackedPlace.is_live.Goals as goal

pub returns : goal.returns
returns c = rw (← c.self.view_is) (live_in c.self.inside.code)
