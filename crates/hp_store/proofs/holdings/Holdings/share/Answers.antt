use Rattle.std.proofs.Common.{◌≡◌, ◌+◌, length, vec_len, refl, arith, rules}
use Rattle.hp_store.specs.Store.{held_once_more}
use Rattle.hp_store.proofs.Counted.{counted_holders, holders_read, holders_set, holders_within}
use Rattle.hp_store.proofs.holdings.Holdings.share.Goals as goal

pub index_mut-holders-requires : goal.index_mut-holders-requires
index_mut-holders-requires g c =
    let e : length c.self.inside.holders.items ≡ vec_len c.self.inside.holders = search rules in
    omega (arith, e, holders_within _ _ c.self.invariant.counted c.args.at (rw (← c.self.view_is) at c.requires.held))

pub overflow_add-holders : goal.overflow_add-holders
overflow_add-holders g c =
    let some = rw (← c.self.view_is) at c.requires.held in
    let few = rw (← c.self.view_is) at c.requires.few in
    omega (arith, few, holders_read _ _ c.self.invariant.counted c.args.at c.index_mut-holders.result.now some c.index_mut-holders.ensures.value)

pub invariant_of-self : goal.invariant_of-self
invariant_of-self g c =
    let some = rw (← c.self.view_is) at c.requires.held in
    record {
      counted = counted_holders _ _ c.self.invariant.counted c.args.at c.index_mut-holders.result.now some c.index_mut-holders.ensures.value (c.index_mut-holders.result.now + 1) (omega arith);
      within = c.self.invariant.within;
      pages_room = c.self.invariant.pages_room;
      holders_room = c.self.invariant.holders_room;
      pages_few = c.self.invariant.pages_few;
      holders_few = c.self.invariant.holders_few;
    }

pub returns : goal.returns
returns g c =
    let some = rw (← c.self.view_is) at c.requires.held in
    rw (
      ← c.self.view_is,
      holders_set _ _ c.self.invariant.counted c.args.at c.index_mut-holders.result.now some c.index_mut-holders.ensures.value
          (c.index_mut-holders.result.now + 1) held_once_more (λ p. refl),
    )
