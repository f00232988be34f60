use Rattle.std.proofs.Common.{◌≡◌, ◌+◌, ◌-◌, ◌≤◌, drop, count_by}
use Rattle.hp_mapping.specs.Mapped.{has_copy}
use Rattle.hp_lookup.proofs.Words.{IsShared, copies_in, more_in}
use Rattle.hp_file.proofs.forking.share_map.Given as goal

abbrev pub invariant-loop-at : goal.invariant-loop-at
invariant-loop-at g l = record {
  start : l.map.start ≤ l.from;
  up_to : l.from ≤ l.end;
  shared : IsShared l.map.places (drop (l.from - l.map.start) l.map.places) l.initial.pages.store l.pages.store;
  counted : l.pages.more ≡ more_in l.pages.store.pages;
  more : l.pages.more + count_by has_copy (drop (l.from - l.map.start) l.map.places) ≡ l.initial.pages.more + copies_in l.map;
}

abbrev pub decreases-loop-at : goal.decreases-loop-at
decreases-loop-at g l = l.end - l.from
