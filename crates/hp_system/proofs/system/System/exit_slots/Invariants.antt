use Rattle.std.proofs.Common.{◌≡◌, length}
use Rattle.std.specs.List.{range_with_len}
use Rattle.hp_system.specs.Event.{AreExited}
use Rattle.hp_model.proofs.Words.{IsReadyMachine}
use Rattle.hp_system.proofs.system.System.exit_slots.Given as goal

abbrev pub invariant-loop-at : goal.invariant-loop-at
invariant-loop-at g l = record {
  done : AreExited l.fn.self.state (range_with_len 0 l.at) l.fn.task l.self.state;
  slots : length l.self.state.slots ≡ length l.fn.self.state.slots;
  size : l.self.state.page_size ≡ l.fn.self.state.page_size;
  ready : IsReadyMachine l.self;
}
