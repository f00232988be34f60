use Rattle.std.proofs.Common.{◌≡◌, length, take, sum_by}
use Rattle.hp_lookup.proofs.Words.{maps_by}
use Rattle.hp_file.specs.ForkLists.{AreSome, spread}
use Rattle.hp_file.proofs.fork_lists.children_among_all.Given as goal

abbrev pub invariant-loop-file : goal.invariant-loop-file
invariant-loop-file l = record {
  some : AreSome l.parent l.child l.file l.files.files l.lists.items;
  all : sum_by length (spread l.lists.items) ≡ sum_by (maps_by l.parent) (take l.file l.files.files);
}
