use Rattle.hp_store.specs.Store.{held_once_more}
use Rattle.hp_store.proofs.Room.{changed}
use Rattle.hp_store.proofs.slots.Slots.share.Goals as goal

pub returns-clause-shared : goal.returns-clause-shared
returns-clause-shared g c =
    rw (← c.self.view_is, c.share.ensures, c.number.ensures) (changed c.self.inside.used.room c.self.inside.used.slots held_once_more c.args.at (rw (← c.self.view_is) at c.requires.held))
