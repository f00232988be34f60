use Rattle.std.proofs.Common.{◌+◌, ◌≤◌, length, take, vec_capacity}
use Rattle.hp_lookup.proofs.Words.{children_of}
use Rattle.hp_file.specs.ForkLists.{IsAmong}
use Rattle.hp_file.proofs.file.File.children_at.Given as goal

abbrev pub invariant-loop-at : goal.invariant-loop-at
invariant-loop-at l = record {
  among : IsAmong l.list.items (children_of l.parent l.child (take l.next l.self.maps));
  within : l.next ≤ length l.self.maps;
  few : length l.list.items ≤ l.at-index;
  room : length l.places + length l.self.maps ≤ vec_capacity l.list;
}
