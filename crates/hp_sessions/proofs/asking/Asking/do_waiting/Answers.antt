use Rattle.std.proofs.Common.{◌+◌, ◌-◌, ◌≤◌, ◌∙◌, ap, arith, length, length-drop}
use borrow.Rule.Slice.PartMut.{put_mid, same_len_mid}
use Rattle.hp_model.proofs.Queues.{does_next, left_next}
use Rattle.hp_sessions.proofs.Queueing.{Called, lent_is, several_left, several_more}
use Rattle.hp_sessions.proofs.asking.Asking.do_waiting.Goals as goal

pub loop-done-preserved : goal.loop-done-preserved
loop-done-preserved g c =
    let i = c.loop-done.invariant in
    let kept = g.P.Parts.keeps in
    let size = g.P.Parts.page in
    let at = c.loop-done.done in
    let now = c.loop-done.queue in
    let some = c.do_together-some in
    let here = c.loop-done-test.true in
    let within : at ≤ length now = omega (arith, here) in
    let same = c.loop-done.auto.queue in
    let few = some.ensures.few in
    let lent = ap length (lent_is at now) in
    let behind = length-drop at now in
    record {
      done = several_more kept size c.args.self.now c.loop-done.self c.args.queue.now now at within i.left i.done some.new.self some.result some.new.queue some.ensures.done;
      left = several_left kept size c.args.self.now c.loop-done.self c.args.queue.now now at within i.left i.done some.result some.new.queue some.ensures.left;
      few = omega (arith, few, lent, behind, same, within);
    }

pub loop-done-preserved-then-some-eq0 : goal.loop-done-preserved-then-some-eq0
loop-done-preserved-then-some-eq0 g c =
    let i = c.loop-done.invariant in
    let kept = g.P.Parts.keeps in
    let size = g.P.Parts.page in
    let at = c.loop-done.done in
    let now = c.loop-done.queue in
    let some = c.do_together-some in
    let none = c.if-some-eq0.true in
    let here = c.loop-done-test.true in
    let within : at ≤ length now = omega (arith, here) in
    let same = c.loop-done.auto.queue in
    let made = put_mid at (length now - at) now some.new.queue in
    let whole = same_len_mid at (length now - at) now some.new.queue some.auto.queue in
    let left = several_left kept size c.args.self.now c.loop-done.self c.args.queue.now now at within i.left i.done some.result some.new.queue some.ensures.left in
    record {
      done = does_next (Called kept size) c.args.self.now some.new.self c.do_one.new.self c.args.queue.now made (at + some.result) c.do_one.new.queued c.index-queue-done.result
          (omega (arith, none, here, same)) (whole ∙ same) left
          (several_more kept size c.args.self.now c.loop-done.self c.args.queue.now now at within i.left i.done some.new.self some.result some.new.queue some.ensures.done) c.do_one.ensures.done;
      left = left_next c.args.queue.now made (at + some.result) c.do_one.new.queued left;
      few = omega (arith, none, here, same);
    }
