use Rattle.std.proofs.Common.{ap, ◌∙◌}
use Rattle.hp_shared.specs.Runs.{TakenView}
use Rattle.hp_shared.proofs.Claimed.{none_first}
use Rattle.hp_shared.proofs.taken.Taken.close.Goals as goal

pub end-requires : goal.end-requires
end-requires g c = none_first c.self.inside.first c.self.inside.last c.self.invariant (ap (λ (t : TakenView). t.nodes) c.self.view_is ∙ c.requires)
