use Rattle.std.proofs.Common.{◌≡◌, ◌≤◌, vec_len, vec_capacity}
use Rattle.hp_shared.proofs.making.open_trails.Given as goal

abbrev pub invariant-loop : goal.invariant-loop
invariant-loop g l = record {
  many : vec_len l.trails ≡ l.counter;
  room : l.slots ≤ vec_capacity l.trails;
}
