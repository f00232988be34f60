use Rattle.std.proofs.Common.{◌≡◌, ◌≤◌, ◌-◌, vec_len, vec_capacity}
use Rattle.std_alloc.specs.Vec.{vec_ptr}
use Rattle.hp_model.proofs.Words.{zeros}
use Rattle.hp_frames.proofs.frame.Frame.new.Given as goal

abbrev pub invariant-loop-bytes : goal.invariant-loop-bytes
invariant-loop-bytes l = record {
  filled : l.bytes.items ≡ zeros (vec_len l.bytes);
  within : vec_len l.bytes ≤ l.page_bytes;
  room : l.page_bytes ≤ vec_capacity l.bytes;
  place : (vec_ptr l.bytes ≡ l.lease.ptr) × (vec_capacity l.bytes ≡ l.lease.size);
}

abbrev pub decreases-loop-bytes : goal.decreases-loop-bytes
decreases-loop-bytes l = l.page_bytes - vec_len l.bytes
