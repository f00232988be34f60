use Rattle.std.proofs.Common.{◌≡◌, ◌+◌, ◌-◌, ap, arith, length, take}
use Rattle.std.proofs.lemmas.List.{with_items_is}
use Rattle.hp_wire.proofs.Buffers.{gets_behind}
use Rattle.hp_wire.proofs.unanswered.Unanswered.read.Goals as goal
use borrow.Rule.Slice.PartMut.{put_mid, same_len_mid}

pub returns-in-Ok-clause-got : goal.returns-in-Ok-clause-got
returns-in-Ok-clause-got g c =
    let buffer = c.self.inside.buffer in
    let end = c.self.inside.end in
    let k = end + c.min-room.result - end in
    let old = c.deref_mut.result.now in
    let buf = c.read_some.new.buf in
    let size = same_len_mid end k old buf c.read_some.auto.buf in
    let len : length (put_mid end k old buf) ≡ buffer.len = omega (arith, size, c.deref_mut.ensures.len, buffer.ok.0) in
    rw (← c.self.view_is) (gets_behind end k c.in-Ok.n old buf buffer.items _ (omega (arith, c.self.invariant, c.deref_mut.ensures.len, buffer.ok.0)) c.in-Ok.ensures.bound.0
    (c.in-Ok.ensures.bytes.0, c.in-Ok.ensures.heard) c.deref_mut.ensures.value (ap (take (end + c.in-Ok.n)) (with_items_is buffer (put_mid end k old buf) len)))
