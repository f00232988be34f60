use Rattle.hp_store.specs.Store.{held_once_less}
use Rattle.hp_store.proofs.Numbered.{held_either, numbered_either}
use Rattle.hp_store.proofs.Room.{changed}
use Rattle.hp_store.proofs.slots.Slots.drop_shared.Goals as goal

pub returns-clause-dropped : goal.returns-clause-dropped
returns-clause-dropped g c = λ several.
    rw (← c.self.view_is, c.drop_shared.ensures.dropped several, c.number.ensures)
    (changed c.self.inside.used.room c.self.inside.used.slots held_once_less c.args.at (rw (← c.self.view_is) at c.requires))

pub invariant_of-self : goal.invariant_of-self
invariant_of-self g c =
    let some = rw (← c.number.ensures) at (rw (← c.self.view_is) at c.requires) in
    numbered_either c.self.inside.used _ _ _ held_once_less c.number.result c.self.invariant some c.drop_shared.new.self c.drop_shared.result c.drop_shared.ensures.dropped c.drop_shared.ensures.same

pub returns-clause-held : goal.returns-clause-held
returns-clause-held g c =
    let some = rw (← c.number.ensures) at (rw (← c.self.view_is) at c.requires) in
    rw (← c.self.view_is) (held_either c.self.inside.used _ _ _ held_once_less c.number.result c.self.invariant some c.drop_shared.new.self
    c.drop_shared.result c.drop_shared.ensures.dropped c.drop_shared.ensures.same)
