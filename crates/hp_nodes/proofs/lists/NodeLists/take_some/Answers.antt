use Rattle.std.proofs.Common.{rules, ◌<◌, ◌≤◌, ap, ◌∙◌, arith, length}
use Rattle.std.proofs.lemmas.List.{get_or_read}
use Rattle.hp_model.specs.declared.node.NodeRow.{NodeRow}
use Rattle.hp_model.proofs.Words.{no_row, row_at}
use Rattle.hp_nodes.specs.Moves.{take_by}
use Rattle.hp_nodes.proofs.Keeps.{kept_take}
use Rattle.hp_nodes.proofs.lists.NodeLists.take_some.Goals as goal

pub invariant_of-self : goal.invariant_of-self
invariant_of-self g c =
    let s = c.self.inside in
    let at = c.near-at.result in
    let n = c.min-count.result in
    let here : at < length s.nodes.items = search rules in
    let node_is = get_or_read s.nodes.items _ _ here c.index_mut-node.ensures.value no_row in
    let enough : n ≤ (row_at s.nodes.items at).free = omega (arith, c.min-count.ensures, c.amount.ensures, ap (λ (r : NodeRow). r.free) node_is) in
    kept_take _ _ _ _ _ at n _ c.self.invariant here enough (c.take_many.ensures.row ∙ ap (take_by n) node_is) c.take_many.ensures.sound (search rules)
