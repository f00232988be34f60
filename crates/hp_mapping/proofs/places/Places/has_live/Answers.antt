use Rattle.std.proofs.Common.{◌∙◌}
use Rattle.hp_mapping.proofs.MarkedPlaces.{some_live}
use Rattle.hp_mapping.proofs.places.Places.has_live.Goals as goal

pub returns : goal.returns
returns c = rw (← c.self.view_is) (c.is_some.ensures ∙ some_live c.next.result c.self.inside.places c.self.inside.live c.self.invariant.live_are c.next.ensures)
