use Rattle.std.proofs.Common.{rules, ◌<◌, ap, ◌∙◌, length}
use Rattle.std.proofs.lemmas.List.{get_or_read}
use Rattle.hp_model.proofs.Words.{no_row, row_at, take_row}
use Rattle.hp_nodes.proofs.Keeps.{kept_take}
use Rattle.hp_nodes.proofs.lists.NodeLists.take.Goals as goal

pub invariant_of-self : goal.invariant_of-self
invariant_of-self g c =
    let s = c.self.inside in
    let at = c.near-at.result in
    let here : at < length s.nodes.items = search rules in
    let free : 0 < (row_at s.nodes.items at).free = search rules in
    let y_is = c.take.ensures.row ∙ ap take_row (get_or_read s.nodes.items _ _ here c.index_mut.ensures.value no_row) in
    kept_take _ _ _ _ _ _ 1 _ c.self.invariant here free y_is c.take.ensures.sound (search rules)
