use Rattle.std.proofs.Common.{◌≤◌, ◌+◌, vec_len, vec_capacity}
use Rattle.std.specs.Vec.Iter.{into_iter_items, into_iter_len}
use Rattle.hp_serving.specs.Connection.{IsClosed}
use Rattle.hp_serving.proofs.Known.{Ending}
use Rattle.hp_serving.proofs.sessions.told_by_number.Given as goal

abbrev pub invariant-loop-entry : goal.invariant-loop-entry
invariant-loop-entry g l = record {
  fits : vec_len l.told + into_iter_len l.rest ≤ vec_capacity l.told;
  ending : Ending (λ e. e.outcome) (IsClosed g.M.Machine.is_opened g.M.Machine.was_told g.M.Machine.may_answer g.M.Machine.page
      g.A.Source.connection g.A.Source.heard g.A.Source.is_over g.A.Source.has_failed g.B.Sink.connection g.B.Write.contents g.B.Sink.has_failed)
      l.fn.entries.items (into_iter_items l.rest) l.told.items;
}

abbrev pub decreases-loop-entry : goal.decreases-loop-entry
decreases-loop-entry g l = into_iter_len l.rest
