use Rattle.std.proofs.Common.{◌≡◌, ◌-◌, length, vec_len, refl, arith, rules}
use Rattle.std.proofs.lemmas.Bool.Decides.{nat_tests}
use Rattle.hp_store.specs.Store.{held_once_less}
use Rattle.hp_store.proofs.Counted.{counted_holders, holders_read, holders_set, holders_within, read_some}
use Rattle.hp_store.proofs.holdings.Holdings.drop_shared.Goals as goal

pub index-holders-requires : goal.index-holders-requires
index-holders-requires g c =
    let e : length c.self.inside.holders.items ≡ vec_len c.self.inside.holders = search rules in
    omega (arith, e, holders_within _ _ c.self.invariant.counted c.args.at (rw (← c.self.view_is) at c.requires))

pub returns-then-holders-eq1-clause-several : goal.returns-then-holders-eq1-clause-several
returns-then-holders-eq1-clause-several g c =
    let some = rw (← c.self.view_is) at c.requires in
    let e = holders_read _ _ c.self.invariant.counted c.args.at c.index-holders.result.now some c.index-holders.ensures in
    rw (← c.self.view_is, ← e, c.if-holders-eq1.true)

pub overflow_sub-holders : goal.overflow_sub-holders
overflow_sub-holders g c =
    let some = rw (← c.self.view_is) at c.requires in
    omega (arith, read_some _ _ c.self.invariant.counted c.args.at c.index-holders.result.now some c.index-holders.ensures)

pub index_mut-requires : goal.index_mut-requires
index_mut-requires g c =
    let e : length c.self.inside.holders.items ≡ vec_len c.self.inside.holders = search rules in
    omega (arith, e, holders_within _ _ c.self.invariant.counted c.args.at (rw (← c.self.view_is) at c.requires))

pub invariant_of-self : goal.invariant_of-self
invariant_of-self g c =
    let some = rw (← c.self.view_is) at c.requires in
    let less = read_some _ _ c.self.invariant.counted c.args.at c.index-holders.result.now some c.index-holders.ensures in
    record {
      counted = counted_holders _ _ c.self.invariant.counted c.args.at c.index-holders.result.now some c.index-holders.ensures
          (c.index-holders.result.now - 1) (omega (arith, less, c.if-holders-eq1.false));
      within = c.self.invariant.within;
      pages_room = c.self.invariant.pages_room;
      holders_room = c.self.invariant.holders_room;
      pages_few = c.self.invariant.pages_few;
      holders_few = c.self.invariant.holders_few;
    }

pub returns-clause-several : goal.returns-clause-several
returns-clause-several g c =
    let some = rw (← c.self.view_is) at c.requires in
    let e = holders_read _ _ c.self.invariant.counted c.args.at c.index-holders.result.now some c.index-holders.ensures in
    rw (← c.self.view_is, ← e) (grind (arith, nat_tests, c.if-holders-eq1.false))

pub returns-clause-dropped : goal.returns-clause-dropped
returns-clause-dropped g c =
    let some = rw (← c.self.view_is) at c.requires in
    λ _. rw (← c.self.view_is, holders_set _ _ c.self.invariant.counted c.args.at c.index-holders.result.now some c.index-holders.ensures (c.index-holders.result.now - 1) held_once_less (λ p. refl))
