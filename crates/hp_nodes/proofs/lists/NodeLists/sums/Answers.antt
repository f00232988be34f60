use Rattle.std.proofs.Common.{◌∙◌, ap}
use Rattle.std.proofs.lemmas.List.{take_all}
use Rattle.hp_model.proofs.Words.{frames_of}
use Rattle.hp_nodes.proofs.Sums.{in_all}
use Rattle.hp_nodes.proofs.lists.NodeLists.sums.Goals as goal

pub returns-clause-all : goal.returns-clause-all
returns-clause-all g c =
    let rows = c.deref-node-items.result.now in
    let whole = take_all c.loop-node.node-index rows c.loop-node-test.false ∙ c.deref-node-items.ensures.value in
    rw c.loop-node.invariant.summed
    (ap frames_of whole ∙ in_all c.self.inside.nodes.items g.N.Naming.frames c.self.invariant.few c.self.invariant.framed)
