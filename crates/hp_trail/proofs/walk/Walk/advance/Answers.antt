use Rattle.std.proofs.Common.{◌<◌, ℕ, sym, subst}
use Rattle.hp_laws.proofs.Variants.{AtSlot, Part}
use Rattle.hp_trail.specs.Walk.{Walking, cursor, part_length}
use Rattle.hp_trail.proofs.Fitting.{cursor_fits}
use Rattle.hp_trail.proofs.walk.Walk.advance.Goals as goal

pub overflow_add-index_mut : goal.overflow_add-index_mut
overflow_add-index_mut c =
    let k : ℕ = c.in-Slot.slot in
    let below : cursor c.args.self.now.cursors (AtSlot k) < part_length c.args.self.now.trails (AtSlot k) =
    subst (λ (p : Part). cursor c.args.self.now.cursors p < part_length c.args.self.now.trails p) c.in-Slot.is c.requires in
    cursor_fits c.self.inside.slots.now c.self.inside.slot_cursors.items k c.index_mut.result.now c.self.invariant.0 c.index_mut.ensures.value
    (subst (λ (w : Walking). cursor w.cursors (AtSlot k) < part_length w.trails (AtSlot k)) (sym c.self.view_is) below)
