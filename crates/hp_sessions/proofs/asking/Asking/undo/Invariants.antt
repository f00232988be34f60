use Rattle.hp_sessions.specs.Calls.{Grows}
use Rattle.hp_sessions.specs.Forks.{marked_below}
use Rattle.hp_sessions.proofs.Forking.{Exited}
use Rattle.hp_sessions.proofs.asking.Asking.undo.Given as goal

abbrev pub invariant-loop-at : goal.invariant-loop-at
invariant-loop-at g l = record {
  gone : Exited g.P.Parts.keeps g.P.Parts.page l.fn.self (marked_below l.done l.at) l.fn.child l.self;
  grows : Grows l.at l.fn.self l.self;
}
