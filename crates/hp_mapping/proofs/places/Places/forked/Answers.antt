use Rattle.hp_mapping.proofs.MarkedPlaces.{counted_forked}
use Rattle.hp_mapping.proofs.places.Places.forked.Goals as goal

pub invariant_of-result : goal.invariant_of-result
invariant_of-result c =
    rw (c.in_ok-places.ensures, c.in_ok-live.ensures, c.in_ok-copies.ensures) (counted_forked c.self.inside.copy_count c.self.inside.places c.self.inside.live c.self.inside.copies c.self.invariant)
