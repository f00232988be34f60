use Rattle.std.proofs.Common.{◌≡◌, ◌∷◌, [], arith, ap, ◌∙◌}
use Rattle.linked_list_allocator.specs.Region.{block_size, bottom}
use Rattle.linked_list_allocator.specs.Heap.{heap_region}
use Rattle.hp_frames.proofs.Cuts.{all_fit}
use Rattle.hp_frames.proofs.stock.Stock.new.Goals as goal

pub invariant_of-result : goal.invariant_of-result
invariant_of-result c =
    let size = c.in-Some.ensures in
    let none : c.in_ok-returned.returned.items ≡ [] = c.in_ok-returned.ensures.items in
    record {
      few = c.requires;
      within = rw none (omega arith);
      places = omega (arith, c.in_ok-returned.ensures.capacity);
      small = λ some. size.2;
      uncut = λ some. (
        bottom (heap_region c.in_ok-heap.heap),
        c.in_ok-heap.ensures.holes
            ∙ ap (λ n. (bottom (heap_region c.in_ok-heap.heap), n) ∷ []) (ap block_size size.0 ∙ all_fit c.args.frames c.args.page_bytes some),
      );
      own = rw none (λ k d below. absurd (omega (arith, below)));
    }
