use Rattle.std.proofs.lemmas.Grind.{common_steps}
use Rattle.std.proofs.Common.{◌≡◌, ◌<◌, ◌+◌, ◌-◌, ap, drop, length, arith, sum_by}
use Rattle.hp_lookup.proofs.Words.{in_place}
use Rattle.hp_file.proofs.Counting.{dropped_as, dropped_then, left_held, none_dropped, part_held}
use Rattle.hp_file.proofs.Runs.{left_sum, run_first, run_fits, run_sum}
use Rattle.hp_file.proofs.Sharing.{bare_in, no_copy, stands_at, to_copy}
use Rattle.hp_file.proofs.dropping.drop_map.Goals as goal

pub loop-at-init : goal.loop-at-init
loop-at-init g c = grind (arith, common_steps, dropped_as, none_dropped)

pub drop_run-past-requires : goal.drop_run-past-requires
drop_run-past-requires g c =
    let m = c.args.map.now in
    let was = c.loop-at.invariant in
    let e = c.in-Some.ensures in
    let at = c.in-Some.at in
    part_held (left_held c.requires was.dropping) (λ n.
    let its = run_sum (at - m.start) m.places c.run_from.result.now c.run_from.ensures (in_place n) in
    let same = to_copy (in_place n) (bare_in n) m c.loop-at.from at was.start e.from (omega (arith, e.below, c.end-end.ensures)) e.clear in
    omega (arith, its, same))

pub loop-at-smaller : goal.loop-at-smaller
loop-at-smaller g c = grind (arith, common_steps, run_first, stands_at)

pub loop-at-preserved : goal.loop-at-preserved
loop-at-preserved g c =
    let m = c.args.map.now in
    let run = c.run_from.result.now in
    let is = c.run_from.ensures in
    let was = c.loop-at.invariant in
    let e = c.in-Some.ensures in
    let from = c.loop-at.from in
    let at = c.in-Some.at in
    let past = c.drop_run-past.result in
    let within = c.drop_run-past.ensures.within in
    let fits = run_fits (at - m.start) m.places run is in
    let next : at + past - m.start ≡ at - m.start + past = omega (arith, was.start, e.from) in
    let below : at < m.start + length m.places = omega (arith, e.below, c.end-end.ensures) in
    record {
      start = omega (arith, was.start, e.from);
      up_to = omega (arith, fits, within, was.start, e.from, c.end-end.ensures);
      dropping = dropped_then was.dropping c.drop_run-past.ensures.dropping (λ n.
          let its = run_sum (at - m.start) m.places run is (in_place n) in
          let rest = left_sum (at - m.start) m.places run is (in_place n) past within in
          let same = to_copy (in_place n) (bare_in n) m from at was.start e.from below e.clear in
          let end = ap (λ k. sum_by (in_place n) (drop k m.places)) next in
          omega (arith, its, rest, same, end));
    }

pub returns : goal.returns
returns g c = grind (arith, common_steps, dropped_as, bare_in, no_copy)
