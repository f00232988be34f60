use Rattle.std.proofs.Common.{arith, ap, length, map, is_some, nat_lt, sym, ◌∙◌}
use Rattle.hp_store.proofs.Counted.{long}
use Rattle.hp_store.proofs.holdings.Holdings.narrow.Goals as goal

pub invariant_of-self : goal.invariant_of-self
invariant_of-self g c =
    let was = c.self.invariant in
    let pages = c.shrink_to.ensures in
    let holders = c.shrink_to-2.ensures in
    let used = rw (← c.self.view_is, long _ _ c.self.invariant.counted) at c.requires.used in
    let less = rw (← c.self.view_is) at c.requires.less in
    record {
      counted = ap (map is_some) pages.items ∙ was.counted ∙ sym (ap (map (nat_lt 0)) holders.items);
      within = omega (arith, used, ap length pages.items);
      pages_room = omega (arith, was.pages_room, pages.lower_bound, less);
      holders_room = omega (arith, was.holders_room, holders.lower_bound, less);
      pages_few = omega (arith, was.pages_few, pages.capacity);
      holders_few = omega (arith, was.holders_few, holders.capacity);
    }
