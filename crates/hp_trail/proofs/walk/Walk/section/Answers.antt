use Rattle.std.proofs.Common.{◌≡◌, ◌∙◌, ℕ, get_or, ap, sym, arith}
use Rattle.hp_trail.specs.Walk.{cursor_at}
use Rattle.hp_trail.proofs.Fetching.{none_after, none_at, one_there, section_elsewhere, section_none, section_some}
use Rattle.hp_trail.proofs.walk.Walk.section.Goals as goal

pub returns-in_err-cursor-in-Slot : goal.returns-in_err-cursor-in-Slot
returns-in_err-cursor-in-Slot c =
    let k : ℕ = c.in-Slot.slot in
    let cursors = c.self.inside.slot_cursors.items in
    let none = none_at c.self.inside.slots.now k (cursor_at cursors k) (omega (arith, c.in_err-cursor-in-Slot.ensures.lookup.3, c.deref.ensures.len, c.self.invariant.0)) in
    c.from_residual.ensures ∙ sym (section_none _ c.args.self.now c.args.part k c.self.view_is c.in-Slot.is none)

pub returns-in_err-get-in-Slot : goal.returns-in_err-get-in-Slot
returns-in_err-get-in-Slot c =
    let k : ℕ = c.in-Slot.slot in
    let cursors = c.self.inside.slot_cursors.items in
    let none = none_at c.self.inside.slots.now k (cursor_at cursors k) c.in_err-get-in-Slot.ensures.lookup.3 in
    c.from_residual-in_err-get-in-Slot.ensures ∙ sym (section_none _ c.args.self.now c.args.part k c.self.view_is c.in-Slot.is none)

pub returns-in_err-get-in-Slot-2 : goal.returns-in_err-get-in-Slot-2
returns-in_err-get-in-Slot-2 c =
    let k : ℕ = c.in-Slot.slot in
    let cursors = c.self.inside.slot_cursors.items in
    let found = c.in_ok-get-in-Slot.ensures.lookup in
    let place : c.in_ok-cursor-in-Slot.field-0.now ≡ cursor_at cursors k = c.in_ok-cursor-in-Slot.ensures.lookup.3.1 0 ∙ ap (λ xs. get_or xs k 0) c.deref.ensures.value in
    let none = none_after c.self.inside.slots.now k (cursor_at cursors k) c.in_ok-get-in-Slot.field-0.now c.deref-in-Slot.result.now
    c.in_ok-cursor-in-Slot.field-0.now found.3.0 found.1 c.deref-in-Slot.ensures.value place c.in_err-get-in-Slot-2.ensures.lookup.3 in
    c.from_residual-in_err-get-in-Slot-2.ensures ∙ sym (section_none _ c.args.self.now c.args.part k c.self.view_is c.in-Slot.is none)

pub returns-in_ok-get-in-Slot-2 : goal.returns-in_ok-get-in-Slot-2
returns-in_ok-get-in-Slot-2 c =
    let k : ℕ = c.in-Slot.slot in
    let cursors = c.self.inside.slot_cursors.items in
    let found = c.in_ok-get-in-Slot.ensures.lookup in
    let entry = c.in_ok-get-in-Slot-2.ensures.lookup in
    let place : c.in_ok-cursor-in-Slot.field-0.now ≡ cursor_at cursors k = c.in_ok-cursor-in-Slot.ensures.lookup.3.1 0 ∙ ap (λ xs. get_or xs k 0) c.deref.ensures.value in
    let there = one_there c.self.inside.slots.now k (cursor_at cursors k) c.in_ok-get-in-Slot.field-0.now c.deref-in-Slot.result.now
    c.in_ok-cursor-in-Slot.field-0.now found.3.0 found.1 c.deref-in-Slot.ensures.value place c.in_ok-get-in-Slot-2.field-0.now entry.3.0 entry.1
    in
    sym (section_some _ c.args.self.now c.args.part k c.self.view_is c.in-Slot.is c.in_ok-get-in-Slot-2.field-0.now there)

pub returns-in_default : goal.returns-in_default
returns-in_default c = sym (section_elsewhere c.args.self.now.trails c.args.self.now.cursors c.args.part c.in_default.not-Slot)
