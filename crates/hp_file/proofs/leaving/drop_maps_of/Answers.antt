use Rattle.std.proofs.lemmas.Grind.{common_steps}
use Rattle.std.proofs.Common.{arith, ap, ◌<◌, length, ◌∙◌}
use Rattle.std.proofs.lemmas.List.{length-set}
use Rattle.std.proofs.lemmas.List.Sums.{get_or-le-sum_by, sum_by-set}
use Rattle.hp_lookup.proofs.Words.{NumberedFile, emptied, file_owed, in_file, left_by}
use Rattle.hp_file.proofs.Counting.{dropped_then, left_held, part_held}
use Rattle.hp_file.proofs.Punched.{first_step}
use Rattle.hp_file.proofs.leaving.drop_maps_of.Goals as goal

pub loop-at-preserved : goal.loop-at-preserved
loop-at-preserved g c =
    let was = c.loop-at in
    let fs = was.files.files in
    let i = was.at in
    let f = c.index_mut.result.now in
    let read = c.index_mut.ensures.value in
    let one = c.drop_maps_of-gone in
    let n = one.new.self in
    let within : i < length c.args.files.now.files = omega (arith, c.loop-at-test.true, c.len-at-end.ensures) in
    let inside : i < length fs = omega (arith, within, was.invariant.4) in (
      dropped_then was.invariant.0 one.ensures.dropping
          (λ k. (let step = sum_by-set (in_file k) fs i n f inside in let same = ap (in_file k) read in omega (arith, step, same))),
      first_step (λ (f : NumberedFile). emptied (left_by c.args.task f)) i c.args.files.now.files fs f n within was.invariant.1
          (one.ensures.file ∙ ap (λ (f : NumberedFile). emptied (left_by c.args.task f)) read),
      (let step = sum_by-set file_owed fs i n f inside in let same = ap file_owed read in let had = was.invariant.2 in let left = one.ensures.reserves in omega (arith, step, same, had, left)),
      (let step = sum_by-set (λ (f : NumberedFile). length f.maps) fs i n f inside in let same = ap (λ (f : NumberedFile). length f.maps) read in
          let had = was.invariant.3 in let left = one.ensures.maps in omega (arith, step, same, had, left)),
      length-set fs i n ∙ was.invariant.4,
    )

pub overflow_add-maps : goal.overflow_add-maps
overflow_add-maps g c = grind (arith, common_steps, sum_by-set)

pub overflow_add-reserves : goal.overflow_add-reserves
overflow_add-reserves g c = grind (arith, common_steps, sum_by-set)

pub drop_maps_of-gone-requires-clause-held : goal.drop_maps_of-gone-requires-clause-held
drop_maps_of-gone-requires-clause-held g c = grind (arith, common_steps, get_or-le-sum_by, left_held, part_held)

pub drop_maps_of-gone-requires-clause-few : goal.drop_maps_of-gone-requires-clause-few
drop_maps_of-gone-requires-clause-few g c = grind (arith, common_steps, get_or-le-sum_by)
