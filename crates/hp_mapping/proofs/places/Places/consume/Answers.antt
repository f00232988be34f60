use Rattle.std.proofs.Common.{◌<◌, length}
use Rattle.hp_mapping.proofs.MarkedPlaces.{counted_consumed}
use Rattle.hp_mapping.proofs.places.Places.consume.Goals as goal

pub invariant_of-self : goal.invariant_of-self
invariant_of-self c =
    let s = c.self.inside in
    let within : c.args.at < length s.places = rw (← c.self.view_is) at c.requires in
    rw c.consume.ensures (counted_consumed s.copy_count s.places s.live s.copies c.args.at c.self.invariant within)
