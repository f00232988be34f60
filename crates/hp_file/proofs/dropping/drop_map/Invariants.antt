use Rattle.std.proofs.Common.{◌-◌, ◌≤◌, drop, sum_by}
use Rattle.hp_lookup.proofs.Words.{in_map, in_place}
use Rattle.hp_file.specs.HeldPages.{AreDropped}
use Rattle.hp_file.proofs.dropping.drop_map.Given as goal

abbrev pub invariant-loop-at : goal.invariant-loop-at
invariant-loop-at g l = record {
  start : l.map.start ≤ l.from;
  up_to : l.from ≤ l.end;
  dropping : AreDropped (λ n. in_map n l.map) (λ n. sum_by (in_place n) (drop (l.from - l.map.start) l.map.places)) l.initial.pages l.pages;
}

abbrev pub decreases-loop-at : goal.decreases-loop-at
decreases-loop-at g l = l.end - l.from
