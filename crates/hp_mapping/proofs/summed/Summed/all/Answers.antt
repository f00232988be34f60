use Rattle.hp_mapping.proofs.FilledWords.{summed_all}
use Rattle.hp_mapping.proofs.summed.Summed.all.Goals as goal

pub invariant_of-result : goal.invariant_of-result
invariant_of-result c =
    let words = c.in_ok-words.ensures in
    let above = c.in_ok-above.ensures in
    summed_all c.args.count c.div_ceil.result c.in_ok-words.words.items c.in_ok-above.above.items c.ranges.count.fits c.div_ceil.ensures
    words.marked words.blank words.len above.marked above.blank above.len
