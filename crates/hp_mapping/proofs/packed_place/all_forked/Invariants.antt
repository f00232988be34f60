use Rattle.std.proofs.Common.{◌≡◌, take, map, vec_len, vec_capacity}
use Rattle.hp_model.proofs.Words.{unconsumed}
use Rattle.hp_mapping.proofs.packed_place.all_forked.Given as goal

abbrev pub invariant-loop-place : goal.invariant-loop-place
invariant-loop-place l = record {
  items : l.copies.items ≡ map unconsumed (take l.place-index l.places);
  len : vec_len l.copies ≡ l.place-index;
  capacity : vec_capacity l.copies ≡ l.room;
}
