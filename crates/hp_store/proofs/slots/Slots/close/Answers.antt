use Rattle.std.proofs.Common.{sym, ◌∙◌}
use Rattle.hp_store.proofs.Room.{same}
use Rattle.hp_store.proofs.slots.Slots.close.Goals as goal

pub close-requires : goal.close-requires
close-requires g c = λ n. sym (same c.self.inside.used.room c.self.inside.used.slots n) ∙ (rw (← c.self.view_is) at (c.requires n))
