use Rattle.std.proofs.Common.{arith, ◌<◌, length}
use Rattle.std.proofs.lemmas.List.Sums.{sum_by-set}
use Rattle.hp_model.proofs.Words.{map_punched}
use Rattle.hp_lookup.proofs.Words.{in_map}
use Rattle.hp_file.proofs.Counting.{dropped_then}
use Rattle.hp_file.proofs.Punched.{first_step}
use Rattle.hp_file.proofs.dropping.drop_all_copies.Goals as goal

pub loop-map-preserved : goal.loop-map-preserved
loop-map-preserved g c =
    let was = c.loop-map in
    let i = was.map-index in
    let n = c.drop_copies.new.map in
    let inside : i < length was.maps = omega (arith, c.loop-map-test.true, was.auto.maps) in (
      dropped_then was.invariant.0 c.drop_copies.ensures.dropping
          (λ k. (let step = sum_by-set (in_map k) was.maps i n c.map-item.result inside in omega (arith, step))),
      first_step (map_punched c.args.a c.args.b) i c.args.maps.now was.maps c.map-item.result n c.loop-map-test.true was.invariant.1 c.drop_copies.ensures.map,
    )
