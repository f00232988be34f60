use Rattle.std.proofs.Common.{◌≡◌, length, take, ◌≤◌, vec_len, vec_capacity}
use Rattle.hp_model.proofs.Words.{IsPromisedRun, IsReadyMachine}
use Rattle.hp_system.proofs.system.System.run.Given as goal

abbrev pub invariant-loop-step : goal.invariant-loop-step
invariant-loop-step g l = record {
  ran : IsPromisedRun l.fn.self.state (take l.step-index l.steps) l.replies.items l.self.state;
  ready : IsReadyMachine l.self;
  size : l.self.state.page_size ≡ l.fn.self.state.page_size;
  filled : vec_len l.replies ≡ l.step-index;
  room : length l.steps ≤ vec_capacity l.replies;
}
