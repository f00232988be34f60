use Rattle.std.proofs.lemmas.Grind.{common_steps}
use Rattle.std.proofs.Common.{arith, ◌<◌, length}
use Rattle.std.proofs.lemmas.List.Sums.{get_or-le-sum_by, sum_by-set}
use Rattle.hp_lookup.proofs.Words.{ended_for, in_map, owed}
use Rattle.hp_file.proofs.Counting.{dropped_then, left_held, part_held}
use Rattle.hp_file.proofs.Punched.{first_step}
use Rattle.hp_file.proofs.dropping.end_maps_of.Goals as goal

pub loop-map-preserved : goal.loop-map-preserved
loop-map-preserved g c =
    let was = c.loop-map in
    let i = was.map-index in
    let one = c.end_map_of-reserves in
    let n = one.new.map in
    let inside : i < length was.maps = omega (arith, c.loop-map-test.true, was.auto.maps) in (
      dropped_then was.invariant.0 one.ensures.dropping
          (λ k. (let step = sum_by-set (in_map k) was.maps i n c.map-item.result inside in omega (arith, step))),
      first_step (ended_for c.args.task) i c.args.maps.now was.maps c.map-item.result n c.loop-map-test.true was.invariant.1 one.ensures.map,
      (let step = sum_by-set owed was.maps i n c.map-item.result inside in let had = was.invariant.2 in let left = one.ensures.reserves in omega (arith, step, had, left)),
    )

pub end_map_of-reserves-requires : goal.end_map_of-reserves-requires
end_map_of-reserves-requires g c = grind (arith, common_steps, get_or-le-sum_by, left_held, part_held)

pub overflow_add-reserves : goal.overflow_add-reserves
overflow_add-reserves g c = grind (arith, common_steps, sum_by-set)
