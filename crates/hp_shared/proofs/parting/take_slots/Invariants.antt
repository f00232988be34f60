use Rattle.std.proofs.Common.{◌≡◌, ◌≤◌, ◌+◌, ◌==◌, [], true, vec_len, vec_capacity}
use Rattle.std.specs.Vec.Iter.{into_iter_len}
use Rattle.hp_shared.specs.Ended.{AreSlotsJoined}
use Rattle.hp_trail.specs.Walk.{lists}
use Rattle.hp_shared.proofs.parting.take_slots.Given as goal

abbrev pub invariant-loop-slot : goal.invariant-loop-slot
invariant-loop-slot g l = record {
  all : vec_len l.mounts + into_iter_len l.rest ≡ vec_len l.fn.slots;
  same : vec_len l.trails ≡ vec_len l.mounts;
  mounts_fit : vec_len l.mounts + into_iter_len l.rest ≤ vec_capacity l.mounts;
  trails_fit : vec_len l.mounts + into_iter_len l.rest ≤ vec_capacity l.trails;
  named : l.seat.table_id ≡ g.N.Places.history;
  alone : l.seat.me.1 ≡ [];
  joined : l.in_order ≡ true → AreSlotsJoined (g.row.K == 1) g.N.Naming.page_bytes (lists l.trails.items) l.mounts.items l.fn.seat.me.0 l.seat.me.0;
}

abbrev pub decreases-loop-slot : goal.decreases-loop-slot
decreases-loop-slot g l = into_iter_len l.rest
