use Rattle.std.proofs.Common.{◌≡◌, ◌∙◌, ap, arith}
use Rattle.hp_store.specs.Store.{held_count}
use Rattle.hp_store.proofs.Room.{held_free, none_used}
use Rattle.hp_store.proofs.slots.Slots.forget_used.Goals as goal

pub returns-then-held-eq0 : goal.returns-then-held-eq0
returns-then-held-eq0 g c =
    let s = c.self.inside in
    let none : held_count s.used.slots ≡ 0 =
    omega (arith, c.if-held-eq0.true, c.held.ensures.held, ap held_count c.self.view_is, held_free s.used.room s.used.slots) in
    rw c.clear-then-held-eq0.ensures (none_used s.used.room s.used.slots c.self.invariant.within none ∙ c.self.view_is)
