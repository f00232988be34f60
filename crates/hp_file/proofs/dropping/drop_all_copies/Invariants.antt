use Rattle.std.proofs.Common.{◌≡◌, sum_by}
use Rattle.hp_model.proofs.Words.{map_punched}
use Rattle.hp_lookup.proofs.Words.{in_map}
use Rattle.hp_file.specs.HeldPages.{AreDropped}
use Rattle.hp_file.proofs.Punched.{first_mapped}
use Rattle.hp_file.proofs.dropping.drop_all_copies.Given as goal

abbrev pub invariant-loop-map : goal.invariant-loop-map
invariant-loop-map g l =
    AreDropped (λ n. sum_by (in_map n) l.initial.maps) (λ n. sum_by (in_map n) l.maps) l.initial.pages l.pages
    × (l.maps ≡ first_mapped (map_punched l.a l.b) l.map-index l.initial.maps)
