use Rattle.std.specs.List.{range_with_len}
use Rattle.hp_sessions.specs.Calls.{Grows}
use Rattle.hp_sessions.proofs.Forking.{Exited}
use Rattle.hp_sessions.proofs.asking.Asking.exit.Given as goal

abbrev pub invariant-loop-at : goal.invariant-loop-at
invariant-loop-at g l = record {
  gone : Exited g.P.Parts.keeps g.P.Parts.page l.initial.self (range_with_len 0 l.at) l.fn.task l.self;
  grows : Grows l.at l.initial.self l.self;
}
