use Rattle.std.proofs.Common.{◌≡◌, None, ◌∙◌}
use Rattle.hp_store.proofs.Empty.{free_front, last_free}
use Rattle.hp_store.proofs.holdings.clear_pages.Goals as goal

pub loop-slot-preserved : goal.loop-slot-preserved
loop-slot-preserved g c = record {
  empty = free_front _ _ _ c.in-Some.ensures.items c.loop-slot.invariant.empty;
  capacity = c.in-Some.ensures.capacity ∙ c.loop-slot.invariant.capacity;
}
