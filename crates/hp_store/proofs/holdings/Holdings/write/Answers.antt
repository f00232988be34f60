use Rattle.std.proofs.Common.{◌≡◌, length, Some, vec_len, arith, rules}
use Rattle.std.proofs.lemmas.List.{length-set}
use Rattle.hp_store.specs.Store.{written_in}
use Rattle.hp_store.proofs.Counted.{counted_page, held_within, page_set, page_there}
use Rattle.hp_store.proofs.holdings.Holdings.write.Goals as goal

pub index_mut-requires : goal.index_mut-requires
index_mut-requires g c =
    let e : length c.self.inside.pages.items ≡ vec_len c.self.inside.pages = search rules in
    omega (arith, e, held_within _ _ c.self.invariant.counted c.args.at (rw (← c.self.view_is) at c.requires.held))

pub unreachable-requires : goal.unreachable-requires
unreachable-requires g c =
    let some = rw (← c.self.view_is) at c.requires.held in
    let there = rw c.in-None.is at (page_there _ _ c.self.invariant.counted c.args.at c.index_mut.result.now some c.index_mut.ensures.value) in
    cc

pub invariant_of-self : goal.invariant_of-self
invariant_of-self g c =
    let some = rw (← c.self.view_is) at c.requires.held in
    record {
      counted = counted_page _ _ c.self.invariant.counted c.args.at c.index_mut.result.now some c.index_mut.ensures.value c.write.new.self;
      within = omega (arith, length-set c.self.inside.pages.items c.args.at (Some c.write.new.self), c.self.invariant.within);
      pages_room = c.self.invariant.pages_room;
      holders_room = c.self.invariant.holders_room;
      pages_few = c.self.invariant.pages_few;
      holders_few = c.self.invariant.holders_few;
    }

pub returns : goal.returns
returns g c =
    let some = rw (← c.self.view_is) at c.requires.held in
    rw (
      ← c.self.view_is,
      page_set _ _ c.self.invariant.counted c.args.at c.index_mut.result.now some c.index_mut.ensures.value c.in-Some.page
          c.write.new.self (written_in c.args.offset c.args.bytes.now) c.in-Some.is (λ h. rw c.write.ensures),
    )
