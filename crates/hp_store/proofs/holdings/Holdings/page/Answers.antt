use Rattle.std.proofs.Common.{◌≡◌, ap, length, vec_len, arith, rules, option_map}
use Rattle.hp_store.specs.Store.{held_page}
use Rattle.hp_store.proofs.Counted.{held_within, page_read, page_there}
use Rattle.hp_store.proofs.holdings.Holdings.page.Goals as goal

pub index-requires : goal.index-requires
index-requires g c =
    let e : length c.self.inside.pages.items ≡ vec_len c.self.inside.pages = search rules in
    omega (arith, e, held_within _ _ c.self.invariant.counted c.args.at (rw (← c.self.view_is) at c.requires))

pub unreachable-requires : goal.unreachable-requires
unreachable-requires g c =
    let some = rw (← c.self.view_is) at c.requires in
    let there = rw c.in-None.is at (page_there _ _ c.self.invariant.counted c.args.at c.index.result.now some c.index.ensures) in
    cc

pub returns : goal.returns
returns g c =
    let some = rw (← c.self.view_is) at c.requires in
    rw (← c.self.view_is) (ap (option_map held_page) (page_read _ _ c.self.invariant.counted c.args.at c.index.result.now some c.index.ensures c.in-Some.page c.in-Some.is))
