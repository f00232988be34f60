use Rattle.std.proofs.Common.{◌≡◌, [], length}
use Rattle.std.specs.List.{range_with_len}
use Rattle.hp_model.proofs.Words.{fork_slots}
use Rattle.hp_sessions.specs.Calls.{Grows, Leads}
use Rattle.hp_sessions.proofs.Forking.{left_at}
use Rattle.hp_sessions.proofs.asking.Asking.fork_slots.Given as goal

abbrev pub invariant-loop-at : goal.invariant-loop-at
invariant-loop-at g l = record {
  left : Leads g.P.Parts.keeps g.P.Parts.page l.fn.self (fork_slots (range_with_len 0 l.fn.self.slots) [] l.fn.parent l.fn.child) l.self
      (left_at g.P.Parts.keeps g.P.Parts.page l.fn.parent l.fn.child l.done l.at l.fn.self.slots);
  grows : Grows l.at l.fn.self l.self;
  long : length l.done ≡ 64;
}
