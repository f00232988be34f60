use Rattle.std.proofs.Common.{◌≡◌, ◌+◌, ◌-◌, ◌≤◌, drop, length, sum_by}
use Rattle.hp_lookup.proofs.Words.{IsDropping, in_place, more_in}
use Rattle.hp_file.proofs.dropping.drop_run.Given as goal

abbrev pub invariant-loop-at : goal.invariant-loop-at
invariant-loop-at g l = record {
  high : l.at ≤ length l.places;
  dropping : IsDropping (λ n. sum_by (in_place n) l.places) (λ n. sum_by (in_place n) (drop l.at l.places)) l.initial.pages.store l.pages.store;
  counted : l.pages.more + l.gone ≡ more_in l.pages.store.pages + l.at;
  fewer : l.gone ≤ l.at;
}

abbrev pub decreases-loop-at : goal.decreases-loop-at
decreases-loop-at g l = length l.places - l.at
