use Rattle.std.proofs.Common.{◌≡◌, suc, [], ◌∷◌, sym, ap, ◌∙◌, arith, vec_len}
use Rattle.hp_history.specs.declared.held.Held.TheVariants.{Slot as SlotPart}
use Rattle.hp_shared.proofs.Parted.{slot_first, slot_goes, slots_left}
use Rattle.hp_shared.proofs.making.lock_slot.Goals as goal

pub give_away-requires-clause-first : goal.give_away-requires-clause-first
give_away-requires-clause-first g c =
    let more : vec_len c.args.rest.now ≡ suc (vec_len c.pop.new.self) = omega (arith, c.in-Some.ensures.len, c.in-Some.ensures.cases) in
    slot_goes (vec_len c.args.locks.now) (vec_len c.args.rest.now) (vec_len c.pop.new.self) c.args.seat.now.me.0 (ap (λ m. m.0) c.requires.slots) more

pub new-requires-clause-seat : goal.new-requires-clause-seat
new-requires-clause-seat g c =
    let more : vec_len c.args.rest.now ≡ suc (vec_len c.pop.new.self) = omega (arith, c.in-Some.ensures.len, c.in-Some.ensures.cases) in
    c.give_away.ensures.first
    ∙ (ap (λ v. (v, [])) (slot_first (vec_len c.args.locks.now) (vec_len c.args.rest.now) (vec_len c.pop.new.self) c.args.seat.now.me.0 (ap (λ m. m.0) c.requires.slots) more)
    ∙ ap (λ k. (SlotPart k [] ∷ [], [])) (sym c.len.ensures))

pub returns-clause-slots : goal.returns-clause-slots
returns-clause-slots g c =
    let more : vec_len c.args.rest.now ≡ suc (vec_len c.pop.new.self) = omega (arith, c.in-Some.ensures.len, c.in-Some.ensures.cases) in
    slots_left c.give_away.new.seat.me c.args.seat.now.me (vec_len c.args.locks.now) (vec_len c.args.rest.now) (vec_len c.pop.new.self) (vec_len c.push_reserved.new.self)
    c.give_away.ensures.view c.requires.slots more (omega (arith, c.push_reserved.ensures.len))
