use Rattle.std.proofs.Common.{◌≡◌, ◌∙◌, ◌≤◌, ap, arith, length, take}
use Rattle.std.proofs.lemmas.List.{with_items_is}
use Rattle.hp_wire.proofs.Buffers.{kept}
use Rattle.hp_wire.proofs.unanswered.Unanswered.keep_last.Goals as goal

pub returns : goal.returns
returns c =
    let buffer = c.self.inside.buffer in
    let new = c.move_to_front.new.buffer in
    let held = c.min-self-inside.result in
    let len : length new ≡ buffer.len = omega (arith, c.move_to_front.auto.buffer, c.deref_mut.ensures.len, buffer.ok.0) in
    let left : c.args.left ≤ length (take c.self.inside.end buffer.items) = rw c.self.view_is c.requires in
    rw (← c.self.view_is) (ap (take held) (with_items_is buffer new len)
    ∙ kept buffer.items new c.self.inside.end c.args.left held (omega (arith, c.self.invariant)) left c.min-self-inside.ensures (rw c.deref_mut.ensures.value at c.move_to_front.ensures))
