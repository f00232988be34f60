use Rattle.std.proofs.lemmas.Grind.{common_steps}
use Rattle.std.proofs.Common.{◌≡◌, ◌<◌, ◌+◌, ◌-◌, ap, drop, length, arith, count_by, sum_by}
use Rattle.hp_mapping.specs.Mapped.{has_copy}
use Rattle.hp_lookup.proofs.Words.{in_place}
use Rattle.hp_file.proofs.Runs.{behind, left_sum, run_first, run_fits, run_sum, shared_before}
use Rattle.hp_file.proofs.Sharing.{bare_in, bare_one, has_one, no_copy, shared_all, shared_as, shared_none, shared_then, stands_at, to_copy}
use Rattle.hp_file.proofs.forking.share_map.Goals as goal

pub loop-at-init : goal.loop-at-init
loop-at-init g c = grind (arith, common_steps, shared_as, shared_none)

pub share_run-past-requires-clause-held : goal.share_run-past-requires-clause-held
share_run-past-requires-clause-held g c =
    let m = c.args.map.now in
    let was = c.loop-at.invariant in
    let e = c.in-Some.ensures in
    let at = c.in-Some.at in
    record {
      held = λ n. (let its = run_sum (at - m.start) m.places c.run_from.result.now c.run_from.ensures (in_place n) in
          let same = to_copy (in_place n) (bare_in n) m c.loop-at.from at was.start e.from (omega (arith, e.below, c.end-end.ensures)) e.clear in
          let less = was.shared.less n in
          let held = was.shared.sharing.held n in
          let all = c.requires.held.held n in
          omega (arith, its, same, less, held, all));
      some = was.shared.sharing.some;
      counted = was.counted;
    }

pub share_run-past-requires-clause-few : goal.share_run-past-requires-clause-few
share_run-past-requires-clause-few g c = grind (arith, common_steps, run_sum, bare_one, has_one, to_copy)

pub loop-at-smaller : goal.loop-at-smaller
loop-at-smaller g c = grind (arith, common_steps, run_first, stands_at)

pub loop-at-preserved : goal.loop-at-preserved
loop-at-preserved g c =
    let m = c.args.map.now in
    let run = c.run_from.result.now in
    let is = c.run_from.ensures in
    let was = c.loop-at.invariant in
    let e = c.in-Some.ensures in
    let from = c.loop-at.from in
    let at = c.in-Some.at in
    let past = c.share_run-past.result in
    let within = c.share_run-past.ensures.within in
    let fits = run_fits (at - m.start) m.places run is in
    let next : at + past - m.start ≡ at - m.start + past = omega (arith, was.start, e.from) in
    let below : at < m.start + length m.places = omega (arith, e.below, c.end-end.ensures) in
    record {
      start = omega (arith, was.start, e.from);
      up_to = omega (arith, fits, within, was.start, e.from, c.end-end.ensures);
      shared = shared_then m.places (drop (from - m.start) m.places) (drop (at + past - m.start) m.places) c.args.pages.now.store c.loop-at.pages.store c.share_run-past.new.pages.store was.shared
          (shared_before (drop (from - m.start) m.places) run (drop past run) (drop (at + past - m.start) m.places)
          (behind (at - m.start) m.places run is) c.loop-at.pages.store c.share_run-past.new.pages.store c.share_run-past.ensures.shared
          (λ n. (let its = run_sum (at - m.start) m.places run is (in_place n) in let same = to_copy (in_place n) (bare_in n) m from at was.start e.from below e.clear in omega (arith, its, same)))
          (λ n. (let rest = left_sum (at - m.start) m.places run is (in_place n) past within in let end = ap (λ k. sum_by (in_place n) (drop k m.places)) next in omega (arith, rest, end))));
      counted = c.share_run-past.ensures.counted;
      more = (let its = run_sum (at - m.start) m.places run is has_one in
          let same = to_copy has_one bare_one m from at was.start e.from below e.clear in
          let rest = left_sum (at - m.start) m.places run is has_one past within in
          let end = ap (λ k. count_by has_copy (drop k m.places)) next in
          let more = was.more in
          omega (arith, its, same, rest, end, more, c.share_run-past.ensures.more));
    }

pub returns : goal.returns
returns g c = grind (arith, common_steps, bare_in, bare_one, has_one, no_copy, shared_all)
