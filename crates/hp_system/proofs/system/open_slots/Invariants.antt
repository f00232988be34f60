use Rattle.std.proofs.Common.{◌≡◌, ◌-◌, ◌≤◌, ◌∷◌, Some, None, replicate, vec_len, vec_capacity}
use Rattle.hp_model.proofs.Words.{open_mount}
use Rattle.hp_system.proofs.system.open_slots.Given as goal

abbrev pub invariant-loop : goal.invariant-loop
invariant-loop g l = record {
  opened : l.slots.items ≡ Some open_mount ∷ replicate (l.counter - 1) None;
  some : 1 ≤ l.counter;
  many : vec_len l.slots ≡ l.counter;
  room : l.count ≤ vec_capacity l.slots;
  pool : l.pool ≡ l.fn.pool;
}
