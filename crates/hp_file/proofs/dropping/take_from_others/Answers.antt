use Rattle.std.proofs.lemmas.Grind.{common_steps}
use Rattle.std.proofs.Common.{ℕ, ◌<◌, length, refl, arith, slice_index_or}
use Rattle.std.proofs.lemmas.List.Sums.{sum_by-set}
use Rattle.hp_model.proofs.Words.{Mapping}
use Rattle.hp_lookup.proofs.Words.{in_map, no_mapping}
use Rattle.hp_file.specs.Taking.{robbed_at}
use Rattle.hp_file.proofs.Counting.{dropped_as, dropped_then, left_held, part_held}
use Rattle.hp_lookup.proofs.Keys.{set_read}
use Rattle.hp_lookup.proofs.Lifting.{at_most}
use Rattle.hp_file.proofs.Punched.{first_mapped, kept_one, next_but_one}
use Rattle.hp_file.proofs.dropping.take_from_others.Goals as goal

pub loop-at-preserved-then-at-keeper : goal.loop-at-preserved-then-at-keeper
loop-at-preserved-then-at-keeper g c = grind (arith, common_steps, dropped_as, set_read, first_mapped, kept_one)

pub take_from-requires : goal.take_from-requires
take_from-requires g c =
    let was = c.loop-at in
    let inside : was.at < length was.maps = omega (arith, c.loop-at-test.true, was.auto.maps) in
    part_held (left_held c.requires.held was.invariant.0) (λ n. at_most (λ (m : Mapping ℕ). m) (λ m. m) (in_map n) (λ m h. refl) was.maps was.at c.index-maps-at.result inside)

pub loop-at-preserved : goal.loop-at-preserved
loop-at-preserved g c =
    let was = c.loop-at in
    let i = was.at in
    let n = c.take_from.new.map in
    let inside : i < length was.maps = omega (arith, c.loop-at-test.true, was.auto.maps) in (
      dropped_then was.invariant.0 c.take_from.ensures.dropping
          (λ k. (let step = sum_by-set (in_map k) was.maps i n c.index-maps-at.result inside in omega (arith, step))),
      next_but_one (robbed_at c.args.number c.args.index) c.args.keeper (slice_index_or c.args.maps.now c.args.keeper no_mapping)
          c.index-maps-at.result i c.args.maps.now was.maps n c.loop-at-test.true c.if-at-keeper.false was.invariant.1 c.take_from.ensures.map,
    )
