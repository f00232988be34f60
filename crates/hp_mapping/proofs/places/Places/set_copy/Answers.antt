use Rattle.std.proofs.Common.{◌≡◌, slice_index_or, true}
use Rattle.hp_model.specs.declared.place.Place.TheVariants.{Gone}
use Rattle.hp_model.proofs.Words.{is_live}
use Rattle.hp_mapping.proofs.MarkedPlaces.{counted_copied}
use Rattle.hp_mapping.proofs.places.Places.set_copy.Goals as goal

pub invariant_of-self : goal.invariant_of-self
invariant_of-self c =
    let places = c.self.inside.places in
    let live : is_live (slice_index_or places c.args.at Gone) ≡ true = rw (← c.self.view_is) at c.requires in
    rw c.set_copy-bare.ensures.set (counted_copied c.self.inside.copy_count c.from.result places c.self.inside.live c.self.inside.copies
    c.change.new.self c.args.at c.args.page c.set_copy-bare.result c.self.invariant live c.change.ensures c.from.ensures c.set_copy-bare.ensures.bare_is)
