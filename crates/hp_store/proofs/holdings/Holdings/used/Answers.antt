use Rattle.std.proofs.Common.{◌≡◌, length, vec_len, arith, rules}
use Rattle.hp_store.proofs.Counted.{long}
use Rattle.hp_store.proofs.holdings.Holdings.used.Goals as goal

pub returns-clause-used : goal.returns-clause-used
returns-clause-used g c =
    let e : length c.self.inside.pages.items ≡ vec_len c.self.inside.pages = search rules in
    rw (← c.self.view_is) (omega (arith, e, c.len.ensures, long _ _ c.self.invariant.counted))
