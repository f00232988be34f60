use Rattle.std.proofs.Common.{rules, ◌≡◌, ◌<◌, length, replicate}
use Rattle.hp_trail.proofs.Indexing.{one_row_more}
use Rattle.hp_trail.proofs.tellers.Tellers.none.Goals as goal

pub loop-trail-preserved : goal.loop-trail-preserved
loop-trail-preserved c =
    let below : c.loop-trail.trail-index < length c.args.slots.now = search rules in
    let zeros : c.in_ok-vec.field-0.items ≡ replicate (length c.trail-item.result.items) 0 = search rules in
    one_row_more c.loop-trail.rows.items c.push.new.self.items c.args.slots.now c.loop-trail.trail-index c.in_ok-vec.field-0 c.trail-item.result below c.trail-item.is zeros
    c.in_ok-push.ensures.items c.loop-trail.invariant
