use Rattle.std.proofs.Common.{All, ◌≡◌}
use Rattle.linked_list_allocator.specs.Heap.{heap_region}
use Rattle.hp_frames.proofs.stock.Stock.drop.Given as goal

abbrev pub invariant-loop-frame : goal.invariant-loop-frame
invariant-loop-frame l = All (λ f. f.memory ≡ heap_region l.heap) l.returned.items

abbrev pub decreases-loop-frame : goal.decreases-loop-frame
decreases-loop-frame l = goal.left-loop-frame l
