use Rattle.std.proofs.Common.{◌≡◌, ◌-◌, length, []}
use Rattle.std.specs.List.{range_with_len}
use Rattle.hp_model.proofs.Words.{IsReadyMachine, IsScript, Reply, State, fork_slots}
use Rattle.hp_system.specs.Event.{mapped_slots}
use Rattle.hp_system.proofs.system.System.fork_slots.Given as goal

abbrev pub invariant-loop-at : goal.invariant-loop-at
invariant-loop-at g l = record {
  done : (reply : Reply) (u : State)
      → IsScript l.self.state (fork_slots (range_with_len l.at (length l.fn.self.state.slots - l.at)) (mapped_slots l.self.state l.at l.fn.parent) l.fn.parent l.fn.child) reply u
      → IsScript l.fn.self.state (fork_slots (range_with_len 0 (length l.fn.self.state.slots)) [] l.fn.parent l.fn.child) reply u;
  slots : length l.self.state.slots ≡ length l.fn.self.state.slots;
  size : l.self.state.page_size ≡ l.fn.self.state.page_size;
  ready : IsReadyMachine l.self;
}
