use Rattle.std.proofs.Common.{rules, ◌≡◌, ◌<◌, ap, subst, ◌∙◌, refl, arith, All, length}
use Rattle.std.proofs.lemmas.Grind.{common_steps}
use Rattle.linked_list_allocator.specs.Heap.{heap_holes, heap_region}
use Rattle.linked_list_allocator.specs.Holes.{taken}
use Rattle.linked_list_allocator.specs.Region.{block_size}
use Rattle.hp_frames.specs.Stock.{IsOf}
use Rattle.hp_frames.proofs.Cuts.{cut, some_units}
use Rattle.hp_frames.proofs.stock.Stock.draw.Goals as goal

pub unwrap-layout-requires : goal.unwrap-layout-requires
unfolding lib.Count.ones
unwrap-layout-requires c =
    let some : 0 < c.self.inside.fresh = search rules in
    let small = c.self.invariant.small some in
    c.from_size_align.ensures.succeeds.1 (record { power_of_two = refl; positive = omega arith; fits = omega (arith, small) })

pub invariant_of-self-2 : goal.invariant_of-self-2
invariant_of-self-2 c =
    let h = c.self.invariant in
    let s = c.self.inside in
    let same : s.returned.items ≡ c.pop.new.self.items = grind (arith, common_steps, c.in_default.ensures.items) in
    let region : heap_region c.allocate_first_fit.new.self ≡ heap_region s.heap = c.allocate_first_fit.ensures.region.0 in
    let holes : heap_holes c.allocate_first_fit.new.self ≡ taken (block_size s.page_bytes) (heap_holes s.heap) = search rules in
    record {
      few = h.few;
      within = omega (arith, h.within, ap length same);
      places = search rules;
      small = λ more. h.small (omega (arith, more));
      uncut = λ more. let left = cut s.fresh (block_size s.page_bytes) (heap_holes s.heap) (omega (arith, (some_units s.page_bytes).0)) h.uncut more in (left.0, holes ∙ left.1);
      own = rw region (subst (All (IsOf s.node (heap_region s.heap) s.page_bytes)) same h.own);
    }
