use Rattle.std.proofs.Common.{◌≡◌, ◌≤◌, ◌-◌, length, take, drop}
use Rattle.hp_model.proofs.Words.{DoesAll}
use Rattle.hp_sessions.proofs.Queueing.{Called}
use Rattle.hp_sessions.proofs.asking.Asking.do_waiting.Given as goal

abbrev pub invariant-loop-done : goal.invariant-loop-done
invariant-loop-done g l = record {
  done : DoesAll (Called g.P.Parts.keeps g.P.Parts.page) l.fn.self (take l.done l.fn.queue) (take l.done l.queue) l.self;
  left : drop l.done l.queue ≡ drop l.done l.fn.queue;
  few : l.done ≤ length l.fn.queue;
}

abbrev pub decreases-loop-done : goal.decreases-loop-done
decreases-loop-done g l = length l.fn.queue - l.done
