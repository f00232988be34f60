use Rattle.std.proofs.Common.{None, arith, ap, sym, ◌∙◌, is_some}
use Rattle.std.proofs.lemmas.List.{length-set}
use Rattle.hp_store.proofs.Free.{free_given}
use Rattle.hp_store.proofs.Room.{held_some, same, set_used, used_within}
use Rattle.hp_store.proofs.slots.Slots.remove.Goals as goal

pub returns-clause-removed : goal.returns-clause-removed
returns-clause-removed g c =
    let room = c.self.inside.used.room in
    let slots = c.self.inside.used.slots in
    let within = used_within room slots c.args.at (held_some _ (rw (← c.self.view_is) at c.requires)) in
    rw (← c.self.view_is, c.take-page.ensures.taken, c.number.ensures) (set_used room slots c.args.at None within)

pub invariant_of-self : goal.invariant_of-self
invariant_of-self g c =
    let room = c.self.inside.used.room in
    let slots = c.self.inside.used.slots in
    let some = ap is_some (sym (same room slots c.args.at)) ∙ held_some _ (rw (← c.self.view_is) at c.requires) in
    rw (c.take-page.ensures.taken, c.push_reserved.ensures.items, c.number.ensures) (record {
      listed = free_given slots c.self.inside.free.items c.args.at c.self.invariant.listed some;
      within = omega (arith, length-set slots c.args.at None, c.self.invariant.within);
      free_room = omega (arith, c.self.invariant.free_room, c.push_reserved.ensures.capacity);
      free_few = omega (arith, c.self.invariant.free_few, c.push_reserved.ensures.capacity);
      few = c.self.invariant.few;
    })
