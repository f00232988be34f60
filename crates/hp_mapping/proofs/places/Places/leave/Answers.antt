use Rattle.std.proofs.Common.{◌≡◌, slice_index_or, true, None}
use Rattle.hp_model.specs.declared.place.Place.TheVariants.{Gone}
use Rattle.hp_model.proofs.Words.{copy_of, is_live}
use Rattle.hp_mapping.proofs.MarkedPlaces.{counted_left}
use Rattle.hp_mapping.proofs.places.Places.leave.Goals as goal

pub invariant_of-self : goal.invariant_of-self
invariant_of-self c =
    let live : is_live (slice_index_or c.self.inside.places c.args.at Gone) ≡ true = rw (← c.self.view_is) at c.requires.live in
    let clear : copy_of (slice_index_or c.self.inside.places c.args.at Gone) ≡ None = rw (← c.self.view_is) at c.requires.clear in
    rw c.leave-freed.ensures.left (counted_left c.self.inside.copy_count c.self.inside.places c.self.inside.live c.self.inside.copies
    c.change.new.self c.args.at c.self.invariant live clear c.change.ensures)
