use Rattle.std.proofs.Common.{rules, ◌≡◌, ◌+◌, ap, ◌∙◌, arith, slice_index, slice_set}
use Rattle.std.proofs.lemmas.List.{get_or_read}
use Rattle.hp_model.proofs.Words.{no_row}
use Rattle.hp_nodes.specs.Moves.{put_by}
use Rattle.hp_nodes.proofs.Keeps.{kept_put, some_in_use, used_below, was_used}
use Rattle.hp_nodes.proofs.lists.NodeLists.put.Goals as goal

pub invariant_of-self : goal.invariant_of-self
invariant_of-self g c =
    let s = c.self.inside in
    let here = c.node-at.result in
    let back : c.put.new.self ≡ slice_set s.claims here (slice_index s.claims here + c.amount-count.result) = search rules in
    let was = was_used _ _ _ _ _ here c.amount-count.result c.self.invariant c.node-at.ensures.below back (search rules) in
    let in_rows = used_below s.nodes.items here (omega (arith, was, c.amount-count.ensures, c.requires)) in
    let y_is = c.put-2.ensures.row ∙ ap (put_by c.amount-count.result) (get_or_read s.nodes.items _ _ in_rows c.index_mut.ensures.value no_row) in
    kept_put _ _ _ _ _ here c.amount-count.result _ c.self.invariant c.node-at.ensures.below (omega (arith, c.amount-count.ensures, c.requires)) back (search rules) y_is c.put-2.ensures.sound

pub returns-clause-in_use : goal.returns-clause-in_use
returns-clause-in_use g c =
    let s = c.self.inside in
    let here = c.node-at.result in
    let back : c.put.new.self ≡ slice_set s.claims here (slice_index s.claims here + c.amount-count.result) = search rules in
    let was = was_used _ _ _ _ _ here c.amount-count.result c.self.invariant c.node-at.ensures.below back (search rules) in
    let in_rows = used_below s.nodes.items here (omega (arith, was, c.amount-count.ensures, c.requires)) in
    let y_is = c.put-2.ensures.row ∙ ap (put_by c.amount-count.result) (get_or_read s.nodes.items _ _ in_rows c.index_mut.ensures.value no_row) in
    let less = some_in_use _ _ _ _ here c.amount-count.result _ c.self.invariant in_rows y_is c.put-2.ensures.sound in
    rw (← c.self.view_is) (rw (← c.amount-count.ensures) less)
