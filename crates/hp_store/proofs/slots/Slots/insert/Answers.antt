use Rattle.std.proofs.Common.{◌≡◌, ◌<◌, length, slice_set, Some, vec_len, ◌∙◌, arith, rules}
use Rattle.std.proofs.lemmas.List.{length-set}
use Rattle.hp_store.specs.Store.{first_held}
use Rattle.hp_store.proofs.Free.{free_taken, held_more, taken_empty, taken_within}
use Rattle.hp_store.proofs.Room.{held_free, long, pushed, same, set_used}
use Rattle.hp_store.proofs.slots.Slots.insert.Goals as goal

pub invariant_of-self : goal.invariant_of-self
invariant_of-self g c =
    let slots = c.self.inside.used.slots in
    let len = length-set slots c.in-Some.at (Some (first_held c.args.page)) in
    rw (c.fill.ensures, c.number.ensures) (record {
      listed = free_taken slots c.self.inside.free.items c.pop.new.self.items c.in-Some.at (first_held c.args.page) c.self.invariant.listed c.in-Some.ensures.items;
      within = omega (arith, len, c.self.invariant.within);
      free_room = omega (arith, c.self.invariant.free_room, c.pop.ensures.capacity);
      free_few = omega (arith, c.self.invariant.free_few, c.pop.ensures.capacity);
      few = c.self.invariant.few;
    })

pub returns-in-Some-clause-fresh : goal.returns-in-Some-clause-fresh
returns-in-Some-clause-fresh g c =
    let slots = c.self.inside.used.slots in
    rw (← c.self.view_is) (same c.self.inside.used.room slots c.in-Some.at ∙ taken_empty slots _ _ c.in-Some.at c.self.invariant.listed c.in-Some.ensures.items)

pub returns-in-Some-clause-within : goal.returns-in-Some-clause-within
returns-in-Some-clause-within g c =
    let slots = c.self.inside.used.slots in
    let less = taken_within slots _ _ c.in-Some.at c.self.invariant.listed c.in-Some.ensures.items in
    rw (← c.self.view_is) (omega (arith, less, c.self.invariant.within, long c.self.inside.used.room slots c.self.invariant.within))

pub returns-in-Some-clause-inserted : goal.returns-in-Some-clause-inserted
returns-in-Some-clause-inserted g c =
    let slots = c.self.inside.used.slots in
    let less = taken_within slots _ _ c.in-Some.at c.self.invariant.listed c.in-Some.ensures.items in
    rw (← c.self.view_is, c.fill.ensures, c.number.ensures) (set_used c.self.inside.used.room slots c.in-Some.at (Some (first_held c.args.page)) less)

pub returns-in-Some-clause-held : goal.returns-in-Some-clause-held
returns-in-Some-clause-held g c =
    let slots = c.self.inside.used.slots in
    let room = c.self.inside.used.room in
    let filled = slice_set slots c.in-Some.at (Some (first_held c.args.page)) in
    let less = taken_within slots _ _ c.in-Some.at c.self.invariant.listed c.in-Some.ensures.items in
    let empty = taken_empty slots _ _ c.in-Some.at c.self.invariant.listed c.in-Some.ensures.items in
    rw (← c.self.view_is, c.fill.ensures, c.number.ensures) (omega (arith, held_free room filled, held_free room slots, held_more slots c.in-Some.at (first_held c.args.page) less empty))

pub returns-in-None-clause-inserted : goal.returns-in-None-clause-inserted
returns-in-None-clause-inserted g c =
    let slots = c.self.inside.used.slots in
    let room = c.self.inside.used.room in
    let e : length c.self.inside.free.items ≡ vec_len c.self.inside.free = search rules in
    let less : length slots < room = omega (
      arith,
      e,
      c.in-None.ensures.cases.0,
      c.self.invariant.listed.counted,
      rw (← c.self.view_is) at c.requires,
      held_free room slots,
      long room slots c.self.invariant.within,
    ) in
    rw (← c.self.view_is, c.push.ensures, c.new-at.ensures, c.used.ensures.used) (pushed room slots (Some (first_held c.args.page)) less)
