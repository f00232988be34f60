use Rattle.std.proofs.Common.{◌≡◌, ◌+◌, ◌-◌, ◌<◌, ◌^◌, drop, sum_by}
use Rattle.hp_lookup.proofs.Words.{copies_in}
use Rattle.hp_file.proofs.forking.copies_of.Given as goal

abbrev pub invariant-loop-map : goal.invariant-loop-map
invariant-loop-map l = l.count < 2 ^ 64 - 1 → l.count + sum_by copies_in (drop l.map-index l.maps) ≡ sum_by copies_in l.maps
