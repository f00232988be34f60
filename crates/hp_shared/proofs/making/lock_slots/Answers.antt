use Rattle.std.proofs.Common.{arith}
use Rattle.hp_shared.proofs.making.lock_slots.Goals as goal

pub loop-seat-init : goal.loop-seat-init
loop-seat-init g c =
    let one = c.lock_slot.ensures in
    record {
      all = omega (arith, one.one, one.less, c.requires.none);
      some = omega (arith, one.one);
      room = omega (arith, one.room, c.requires.room);
      named = one.named;
      slots = one.slots;
    }

pub loop-seat-preserved : goal.loop-seat-preserved
loop-seat-preserved g c =
    let was = c.loop-seat.invariant in
    let one = c.lock_slot-in-loop-seat.ensures in
    record {
      all = omega (arith, was.all, one.one, one.less);
      some = omega (arith, one.one);
      room = omega (arith, one.room, was.room);
      named = one.named;
      slots = one.slots;
    }
