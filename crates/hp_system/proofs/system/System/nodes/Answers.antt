use Rattle.std.proofs.Common.{Ok, refl, sym, ap, ◌∙◌}
use Rattle.hp_laws.proofs.Variants.{PerNode}
use Rattle.hp_model.specs.declared.event.PoolEvent.TheVariants.{Nodes}
use Rattle.hp_model.proofs.Words.{IsStep, Machine, node_counts}
use Rattle.hp_system.proofs.MachineSteps.{pool_saw}
use Rattle.hp_system.proofs.system.System.nodes.Goals as goal

pub returns-clause-step : goal.returns-clause-step
unfolding IsStep
returns-clause-step g c =
    let p = c.self.inside.pool in
    let rows = c.node_counts-rows in
    let same = ap (λ (x : Machine). node_counts x.pool) c.self.view_is ∙ sym rows.ensures in
    pool_saw Nodes c.self.view_is c.requires.ready
    (ap (λ n. (Ok (PerNode n (node_counts p)), p)) (sym c.len-nodes.ensures) ∙ ap (λ ns. (Ok (PerNode c.len-nodes.result ns), p)) same) refl
