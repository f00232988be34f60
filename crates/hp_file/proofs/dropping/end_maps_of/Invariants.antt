use Rattle.std.proofs.Common.{◌≡◌, ◌+◌, sum_by}
use Rattle.hp_lookup.proofs.Words.{ended_for, in_map, owed}
use Rattle.hp_file.specs.HeldPages.{AreDropped}
use Rattle.hp_file.proofs.Punched.{first_mapped}
use Rattle.hp_file.proofs.dropping.end_maps_of.Given as goal

abbrev pub invariant-loop-map : goal.invariant-loop-map
invariant-loop-map g l =
    AreDropped (λ n. sum_by (in_map n) l.initial.maps) (λ n. sum_by (in_map n) l.maps) l.initial.pages l.pages
    × (l.maps ≡ first_mapped (ended_for l.task) l.map-index l.initial.maps)
    × (l.reserves + sum_by owed l.maps ≡ sum_by owed l.initial.maps)
