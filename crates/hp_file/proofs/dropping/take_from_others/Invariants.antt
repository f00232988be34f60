use Rattle.std.proofs.Common.{◌≡◌, slice_index_or, slice_set, sum_by}
use Rattle.hp_lookup.proofs.Words.{in_map, no_mapping}
use Rattle.hp_file.specs.HeldPages.{AreDropped}
use Rattle.hp_file.specs.Taking.{robbed_at}
use Rattle.hp_file.proofs.Punched.{first_mapped}
use Rattle.hp_file.proofs.dropping.take_from_others.Given as goal

abbrev pub invariant-loop-at : goal.invariant-loop-at
invariant-loop-at g l =
    AreDropped (λ n. sum_by (in_map n) l.initial.maps) (λ n. sum_by (in_map n) l.maps) l.initial.pages l.pages
    × (l.maps ≡ slice_set (first_mapped (robbed_at l.number l.index) l.at l.initial.maps) l.keeper (slice_index_or l.initial.maps l.keeper no_mapping))
