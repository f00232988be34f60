use Rattle.std.proofs.Common.{◌≡◌, count_by}
use Rattle.hp_mapping.specs.Mapped.{has_copy}
use Rattle.hp_model.proofs.Words.{map_punched}
use Rattle.hp_lookup.proofs.Words.{in_map}
use Rattle.hp_file.specs.HeldPages.{AreDropped}
use Rattle.hp_file.proofs.dropping.drop_copies.Given as goal

abbrev pub invariant-loop-number : goal.invariant-loop-number
invariant-loop-number g l =
    AreDropped (λ n. in_map n l.initial.map) (λ n. in_map n l.map) l.initial.pages l.pages
    × (map_punched l.a l.b l.map ≡ map_punched l.a l.b l.initial.map)

abbrev pub decreases-loop-number : goal.decreases-loop-number
decreases-loop-number g l = count_by has_copy l.map.places
