use Rattle.std.proofs.Common.{◌≡◌, ◌≤◌, ℕ, length}
use Rattle.hp_model.proofs.Words.{IsReadyMachine, slot_at}
use Rattle.hp_system.specs.Event.{AreExited, mapped_slots}
use Rattle.hp_system.proofs.system.System.undo_fork.Given as goal

abbrev pub invariant-loop-at : goal.invariant-loop-at
invariant-loop-at g l = record {
  done : AreExited l.fn.self.state (mapped_slots l.fn.self.state l.at l.fn.parent) l.fn.child l.self.state;
  same : (j : ℕ) → l.at ≤ j → slot_at l.self.state j ≡ slot_at l.fn.self.state j;
  slots : length l.self.state.slots ≡ length l.fn.self.state.slots;
  size : l.self.state.page_size ≡ l.fn.self.state.page_size;
  ready : IsReadyMachine l.self;
}
