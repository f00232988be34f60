use Rattle.std.proofs.Common.{◌≡◌, ◌<◌, ◌+◌, length, slice_index_or, sym, ap, ◌∙◌, rules}
use Rattle.std.proofs.lemmas.Bool.{cond-true, cond-false}
use Rattle.hp_model.specs.declared.node.Kind.TheVariants.{Free}
use Rattle.hp_model.proofs.Words.{has, row_at}
use Rattle.hp_nodes.specs.Moves.{where_has, shrink_by}
use Rattle.hp_nodes.proofs.Each.{changed_before, changed_next, read_at}
use Rattle.hp_nodes.proofs.rounds.shrink_each.Goals as goal
use Rattle.hp_nodes.proofs.rounds.shrink_each.Goals.{then-has, else-has}

pub loop-node-preserved : goal.loop-node-preserved
loop-node-preserved c =
    let rows = c.args.nodes.now in
    let now = c.loop-node.nodes in
    let i = c.loop-node.node-index in
    let f = where_has Free (shrink_by c.args.count) in
    let below : i < length rows = search rules in
    let r = row_at rows i in
    let x_is : slice_index_or now i c.node-item.result ≡ r = read_at f rows now i c.node-item.result below c.loop-node.invariant in
    let has_is : c.has.result ≡ has Free r = c.has.ensures ∙ ap (has Free) x_is in
    elim c.if-has.branch as (λ _. c.if-has.nodes ≡ changed_before (i + 1) f rows) [
      | then-has w ↦
          w.nodes-is ∙ changed_next f rows now i w.shrink.new.self below c.loop-node.invariant
          (w.shrink.ensures.row ∙ ap (shrink_by c.args.count) x_is ∙ sym (cond-true (has Free r) (shrink_by c.args.count r) r
          (sym has_is ∙ w.if-has.true)))
      | else-has w ↦
          w.nodes-is ∙ changed_next f rows now i (slice_index_or now i c.node-item.result) below c.loop-node.invariant
          (x_is ∙ sym (cond-false (has Free r) (shrink_by c.args.count r) r (sym has_is ∙ w.if-has.false)))
    ]
