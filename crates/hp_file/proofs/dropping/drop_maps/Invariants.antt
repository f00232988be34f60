use Rattle.std.proofs.Common.{drop, sum_by}
use Rattle.hp_lookup.proofs.Words.{in_map}
use Rattle.hp_file.specs.HeldPages.{AreDropped}
use Rattle.hp_file.proofs.dropping.drop_maps.Given as goal

abbrev pub invariant-loop-map : goal.invariant-loop-map
invariant-loop-map g l =
    AreDropped (λ n. sum_by (in_map n) l.maps) (λ n. sum_by (in_map n) (drop l.map-index l.maps)) l.initial.pages l.pages
