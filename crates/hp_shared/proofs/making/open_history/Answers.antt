use Rattle.std.proofs.Common.{[], sym, ap, ◌∙◌, subst, replicate}
use Rattle.hp_history.specs.History.{CanGo, rest_of_view}
use Rattle.hp_shared.proofs.Parted.{opener_goes, pool_goes, tasks_go}
use Rattle.hp_shared.proofs.making.open_history.Goals as goal

pub give_away-table-requires-clause-first : goal.give_away-table-requires-clause-first
give_away-table-requires-clause-first g c = subst CanGo (sym (ap (λ m. m.0) c.named-history.ensures.all)) (tasks_go g.N.Places.shape)

pub give_away-pool-requires-clause-first : goal.give_away-pool-requires-clause-first
give_away-pool-requires-clause-first g c =
    subst CanGo (sym (ap (λ m. m.0) c.give_away-table.ensures.view ∙ ap (λ m. rest_of_view m.0) c.named-history.ensures.all)) (pool_goes (replicate g.N.Places.shape.slots []))

pub give_away-requires-clause-first : goal.give_away-requires-clause-first
give_away-requires-clause-first g c =
    subst CanGo (sym (ap (λ m. m.0) c.give_away-pool.ensures.view ∙ (ap (λ m. rest_of_view m.0) c.give_away-table.ensures.view
    ∙ ap (λ m. rest_of_view (rest_of_view m.0)) c.named-history.ensures.all))) (opener_goes (replicate g.N.Places.shape.slots []))
