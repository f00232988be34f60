use Rattle.std.proofs.Common.{◌≡◌, ◌≤◌, ◌+◌, vec_capacity, vec_len}
use Rattle.hp_serving.proofs.serving.start_workers.Given as goal

abbrev pub invariant-loop : goal.invariant-loop
invariant-loop g l = record {
  rights : l.share.parts + vec_len l.handles ≡ l.workers + 1;
  none : l.share.amount ≡ 0;
  few : vec_len l.handles ≤ l.counter;
  fits : l.workers ≤ vec_capacity l.handles;
}
