use Rattle.std.proofs.Common.{◌≡◌, ◌+◌, vec_len}
use Rattle.std.specs.Vec.Iter.{into_iter_len}
use Rattle.hp_serving.proofs.serving.join_all.Given as goal

abbrev pub invariant-loop-handle : goal.invariant-loop-handle
invariant-loop-handle g l = record {
  rights : l.share.parts + into_iter_len l.rest ≡ l.fn.share.parts + vec_len l.fn.handles;
  none : l.share.amount ≡ 0;
}

abbrev pub decreases-loop-handle : goal.decreases-loop-handle
decreases-loop-handle g l = into_iter_len l.rest
