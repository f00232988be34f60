use Rattle.std.proofs.Common.{◌≡◌, ◌≤◌, length, take, vec_capacity}
use Rattle.hp_lookup.proofs.task_maps.TaskMaps.copy.Given as goal

abbrev pub invariant-loop-noted : goal.invariant-loop-noted
invariant-loop-noted l = (l.copy.items ≡ take l.noted-index l.maps) × (length l.maps ≤ vec_capacity l.copy)
