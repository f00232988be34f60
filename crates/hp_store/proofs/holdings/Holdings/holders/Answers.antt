use Rattle.std.proofs.Common.{slice_index, ap, ◌∙◌, arith}
use Rattle.hp_store.proofs.Counted.{holders_is}
use Rattle.hp_store.proofs.holdings.Holdings.holders.Goals as goal

pub returns-in-Some : goal.returns-in-Some
returns-in-Some g c =
    rw (← c.self.view_is) (c.in-Some.ensures.lookup.3.1 0 ∙ ap (λ hs. slice_index hs c.args.at) c.deref.ensures.value ∙ holders_is _ _ c.self.invariant.counted c.args.at)

pub returns-in-None : goal.returns-in-None
returns-in-None g c =
    rw (← c.self.view_is) (c.in-None.ensures.lookup.4 (omega arith) 0 ∙ ap (λ hs. slice_index hs c.args.at) c.deref.ensures.value ∙ holders_is _ _ c.self.invariant.counted c.args.at)
