use Rattle.std.proofs.Common.{sym, subst, ◌∙◌}
use Rattle.std.specs.List.{range_with_len}
use Rattle.hp_system.proofs.MachineSteps.{exited_more, first_more}
use Rattle.hp_system.specs.Event.{AreExited}
use Rattle.hp_system.proofs.system.System.exit_slots.Goals as goal

pub loop-at-preserved : goal.loop-at-preserved
loop-at-preserved g c =
    let was = c.loop-at.invariant in
    let made = c.exit_slot.ensures in
    let s = c.args.self.now.state in
    record {
      done = subst (λ ks. AreExited s ks c.args.task c.exit_slot.new.self.state) (sym (first_more c.loop-at.at))
          (exited_more s c.loop-at.self.state c.exit_slot.new.self.state (range_with_len 0 c.loop-at.at) c.loop-at.at c.args.task was.done made.done);
      slots = made.slots ∙ was.slots;
      size = made.size ∙ was.size;
      ready = made.ready;
    }
