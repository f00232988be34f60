use Rattle.std.proofs.Common.{◌≡◌, ◌+◌, ◌-◌, length, sum_by}
use Rattle.hp_file.specs.ForkLists.{AreSome, spread}
use Rattle.hp_file.proofs.fork_lists.children.Given as goal

abbrev pub invariant-loop-from : goal.invariant-loop-from
invariant-loop-from l = record {
  some : AreSome l.parent l.child l.next l.files.files l.lists.items;
  left : l.left + sum_by length (spread l.lists.items) ≡ l.count;
}

abbrev pub decreases-loop-from : goal.decreases-loop-from
decreases-loop-from l = length l.places - l.from
