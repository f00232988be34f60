use Rattle.std.proofs.Common.{◌-◌, ◌≤◌, length, vec_capacity}
use Rattle.hp_lookup.proofs.map_table.no_places.Given as goal

abbrev pub invariant-loop-near : goal.invariant-loop-near
invariant-loop-near l = l.count ≤ vec_capacity l.near

abbrev pub decreases-loop-near : goal.decreases-loop-near
decreases-loop-near l = l.count - length l.near.items
