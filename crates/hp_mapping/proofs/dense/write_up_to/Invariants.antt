use Rattle.std.proofs.Common.{◌≡◌, ◌+◌, ◌-◌, ◌≤◌, ◌++◌, length, max, replicate, vec_len, vec_capacity}
use Rattle.hp_mapping.specs.Mapped.{fresh}
use Rattle.hp_mapping.proofs.dense.write_up_to.Given as goal

abbrev pub invariant-loop-places : goal.invariant-loop-places
invariant-loop-places l = record {
  items : l.places.items ≡ l.initial.places.items ++ replicate (vec_len l.places - length l.initial.places.items) fresh;
  more : length l.initial.places.items ≤ vec_len l.places;
  most : vec_len l.places ≤ max (length l.initial.places.items) (l.at + 1);
  capacity : vec_capacity l.places ≡ vec_capacity l.initial.places;
}

abbrev pub decreases-loop-places : goal.decreases-loop-places
decreases-loop-places l = l.at + 1 - vec_len l.places
