use Rattle.std.proofs.Common.{take, sum_by}
use Rattle.hp_lookup.proofs.Words.{copies_in, in_map}
use Rattle.hp_file.specs.HeldPages.{AreShared}
use Rattle.hp_file.proofs.forking.share_all.Given as goal

abbrev pub invariant-loop-map : goal.invariant-loop-map
invariant-loop-map g l = AreShared (λ n. sum_by (in_map n) (take l.map-index l.maps)) (sum_by copies_in (take l.map-index l.maps)) l.initial.pages l.pages
