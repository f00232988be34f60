use Rattle.std.proofs.Common.{◌≡◌, ◌≤◌, ◌+◌, ◌==◌, true, vec_len, vec_capacity}
use Rattle.std.specs.Vec.Iter.{into_iter_items, into_iter_len}
use Rattle.hp_shared.specs.Ended.{IsExactly}
use Rattle.hp_trail.specs.Walk.{lists}
use Rattle.hp_closing.proofs.Whole.{Joining}
use Rattle.hp_closing.proofs.closing.all_join.Given as goal

abbrev pub invariant-loop-session : goal.invariant-loop-session
invariant-loop-session g l = record {
  left : l.at + into_iter_len l.rest ≡ vec_len l.fn.sessions;
  fits : (g.row.K == 1) ≡ true → vec_len l.told + into_iter_len l.rest ≤ vec_capacity l.told;
  whole : l.is_whole ≡ true → (l.fn.ended.in_order ≡ true) × IsExactly l.fn.ended.sessions (vec_len l.fn.sessions);
  joined : Joining (g.row.K == 1) l.fn.ended.seat.me.0 l.ended.seat.me.0 l.fn.sessions.items (into_iter_items l.rest) (lists l.told.items) l.at l.is_whole;
}

abbrev pub decreases-loop-session : goal.decreases-loop-session
decreases-loop-session g l = into_iter_len l.rest
