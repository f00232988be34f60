use Rattle.std.proofs.Common.{◌≡◌, length, Some, vec_len, ap, arith, rules}
use Rattle.std.proofs.lemmas.List.{length_push}
use Rattle.hp_store.proofs.Counted.{counted_push, long, pushed, same_length}
use Rattle.hp_store.proofs.holdings.Holdings.push.Goals as goal

pub push_reserved-requires : goal.push_reserved-requires
push_reserved-requires g c =
    let e : length c.self.inside.pages.items ≡ vec_len c.self.inside.pages = search rules in
    omega (arith, e, rw (← c.self.view_is) at c.requires, long _ _ c.self.invariant.counted, c.self.invariant.pages_room)

pub push_reserved-requires-2 : goal.push_reserved-requires-2
push_reserved-requires-2 g c =
    let e : length c.self.inside.holders.items ≡ vec_len c.self.inside.holders = search rules in
    omega (arith, e, rw (← c.self.view_is) at c.requires, long _ _ c.self.invariant.counted, same_length _ _ c.self.invariant.counted, c.self.invariant.holders_room)

pub invariant_of-self : goal.invariant_of-self
invariant_of-self g c =
    record {
      counted = rw (c.push_reserved.ensures.items, c.push_reserved-2.ensures.items) (counted_push _ _ c.self.invariant.counted c.args.page);
      within = omega (arith, rw (← c.self.view_is) at c.requires, long _ _ c.self.invariant.counted, ap length c.push_reserved.ensures.items, length_push c.self.inside.pages.items (Some c.args.page));
      pages_room = omega (arith, c.push_reserved.ensures.capacity, c.self.invariant.pages_room);
      holders_room = omega (arith, c.push_reserved-2.ensures.capacity, c.self.invariant.holders_room);
      pages_few = omega (arith, c.push_reserved.ensures.capacity, c.self.invariant.pages_few);
      holders_few = omega (arith, c.push_reserved-2.ensures.capacity, c.self.invariant.holders_few);
    }

pub returns : goal.returns
returns g c = rw (← c.self.view_is, c.push_reserved.ensures.items, c.push_reserved-2.ensures.items, pushed _ _ c.self.invariant.counted c.args.page)
