use Rattle.std.proofs.Common.{◌≡◌, ◌≤◌, ◌<◌, ◌+◌, [], replicate, vec_len, vec_capacity}
use Rattle.hp_history.specs.History.{held_from}
use Rattle.hp_shared.proofs.making.lock_slots.Given as goal

abbrev pub invariant-loop-seat : goal.invariant-loop-seat
invariant-loop-seat g l = record {
  all : vec_len l.locks + vec_len l.rest ≡ vec_len l.fn.trails;
  some : 0 < vec_len l.locks;
  room : vec_len l.fn.trails ≤ vec_capacity l.locks;
  named : l.seat.table_id ≡ g.N.Places.history;
  slots : l.seat.me ≡ (held_from (vec_len l.locks) (replicate (vec_len l.rest) []), []);
}

abbrev pub decreases-loop-seat : goal.decreases-loop-seat
decreases-loop-seat g l = vec_len l.rest
