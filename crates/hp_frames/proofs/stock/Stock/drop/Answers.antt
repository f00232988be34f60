use Rattle.std.proofs.Common.{◌≡◌, arith}
use Rattle.std.proofs.lemmas.Grind.{common_steps}
use Rattle.std.proofs.lemmas.List.Sorted.{All-permutation}
use Rattle.linked_list_allocator.specs.Heap.{heap_region}
use Rattle.hp_frames.proofs.stock.Stock.drop.Goals as goal

pub loop-frame-init : goal.loop-frame-init
loop-frame-init c =
    All-permutation (λ f. f.memory ≡ heap_region c.self.inside.heap) _ _ c.sort_unstable_by_key.ensures.permutation (λ k d below. (c.self.invariant.own k d below).1)

pub loop-frame-preserved : goal.loop-frame-preserved
loop-frame-preserved c = λ k d below.
    let was = c.loop-frame.invariant k d in
    let region = c.deallocate.ensures.region.0 in
    let items = c.in-Some.ensures.items in
    grind (arith, common_steps)
