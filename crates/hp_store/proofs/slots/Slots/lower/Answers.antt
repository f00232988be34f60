use Rattle.std.proofs.Common.{◌≤◌, length, slice_index_or, None, ◌∙◌, ap, sym, arith}
use Rattle.hp_store.specs.Kept.{Used}
use Rattle.hp_store.proofs.Room.{lengthens, long, same}
use Rattle.hp_store.proofs.slots.Slots.lower.Goals as goal

pub returns-clause-slots : goal.returns-clause-slots
returns-clause-slots g c =
    let used = c.self-2.inside.used in
    let room = c.max-room.result in
    let seen = c.self-2.view_is ∙ c.forget_used.ensures in
    let within = c.self-2.invariant.within in
    let fits : length used.slots ≤ room = omega (arith, c.max-room.ensures, c.used.ensures.used) in
    let less : room ≤ used.room = omega (
      arith,
      c.requires.free,
      within,
      ap length seen,
      long used.room used.slots within,
      c.held.ensures.held,
      c.min-most.ensures,
      c.max-room.ensures,
      c.used.ensures.used,
    ) in
    rw (← seen, c.narrow.ensures) (lengthens room used.room used.slots fits less)

pub returns-clause-same : goal.returns-clause-same
returns-clause-same g c n =
    let used = c.self-2.inside.used in
    same c.narrow.new.self.room c.narrow.new.self.slots n
    ∙ ap (λ (u : Used). slice_index_or u.slots n None) c.narrow.ensures
    ∙ sym (same used.room used.slots n)
    ∙ ap (λ xs. slice_index_or xs n None) (c.self-2.view_is ∙ c.forget_used.ensures)
