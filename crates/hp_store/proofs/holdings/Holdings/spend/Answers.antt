use Rattle.std.proofs.Common.{arith}
use Rattle.hp_store.proofs.Counted.{held_pages}
use Rattle.hp_store.proofs.holdings.Holdings.spend.Goals as goal

pub returns-clause-few : goal.returns-clause-few
returns-clause-few g c =
    rw (← c.self.view_is, held_pages _ _ c.self.invariant.counted) (omega (arith, c.new-tally.ensures, c.spend_pages.ensures.spent, c.close.ensures))
