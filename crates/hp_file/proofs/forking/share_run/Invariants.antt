use Rattle.std.proofs.Common.{◌≡◌, ◌+◌, ◌-◌, ◌≤◌, drop, length, count_by}
use Rattle.hp_mapping.specs.Mapped.{has_copy}
use Rattle.hp_lookup.proofs.Words.{IsShared, more_in}
use Rattle.hp_file.proofs.forking.share_run.Given as goal

abbrev pub invariant-loop-at : goal.invariant-loop-at
invariant-loop-at g l = record {
  high : l.at ≤ length l.places;
  shared : IsShared l.places (drop l.at l.places) l.initial.pages.store l.pages.store;
  counted : l.pages.more + l.at ≡ more_in l.pages.store.pages;
  kept : l.pages.more ≡ l.initial.pages.more;
  copies : l.at + count_by has_copy (drop l.at l.places) ≡ count_by has_copy l.places;
}

abbrev pub decreases-loop-at : goal.decreases-loop-at
decreases-loop-at g l = length l.places - l.at
