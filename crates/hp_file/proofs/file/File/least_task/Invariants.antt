use Rattle.std.proofs.Common.{◌≡◌, map, take}
use Rattle.hp_lookup.proofs.Words.{least_among}
use Rattle.hp_file.proofs.file.File.least_task.Given as goal

abbrev pub invariant-loop-map : goal.invariant-loop-map
invariant-loop-map l = l.least ≡ least_among l.fn.known (map (λ m. m.task) (take l.map-index l.maps))
