use Rattle.std.proofs.Common.{ℕ, ◌≡◌, ◌+◌, ◌-◌, ◌<◌, length, slice_index_or}
use Rattle.hp_inode.specs.Later.{made_count}
use Rattle.hp_inode.proofs.places.make_place.Given as goal

abbrev pub invariant-loop-places : goal.invariant-loop-places
invariant-loop-places l = record {
  few : length l.places.items < 65536;
  same : (j : ℕ) → slice_index_or l.places.items j 0 ≡ slice_index_or l.fn.places.items j 0;
  made : made_count l.places.items ≡ made_count l.fn.places.items;
}

abbrev pub decreases-loop-places : goal.decreases-loop-places
decreases-loop-places l = (l.at + 1) - length l.places.items
