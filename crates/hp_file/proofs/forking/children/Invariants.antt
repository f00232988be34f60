use Rattle.std.proofs.Common.{◌≡◌, ◌++◌, drop}
use Rattle.hp_lookup.proofs.Words.{children_of}
use Rattle.hp_file.proofs.forking.children.Given as goal

abbrev pub invariant-loop-map : goal.invariant-loop-map
invariant-loop-map l = l.list.items ++ children_of l.parent l.child (drop l.map-index l.maps) ≡ children_of l.parent l.child l.maps
