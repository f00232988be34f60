use Rattle.std.proofs.Common.{◌≡◌, ◌+◌, ◌++◌, replicate, vec_capacity, vec_len}
use Rattle.hp_mapping.specs.Mapped.{fresh}
use Rattle.hp_mapping.proofs.sparse.push_fresh.Given as goal

abbrev pub invariant-loop : goal.invariant-loop
invariant-loop l = record {
  items : l.places.items ≡ l.initial.places.items ++ replicate l.counter fresh;
  len : vec_len l.places ≡ vec_len l.initial.places + l.counter;
  capacity : vec_capacity l.places ≡ vec_capacity l.initial.places;
}
