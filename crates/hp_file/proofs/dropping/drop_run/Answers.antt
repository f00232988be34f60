use Rattle.std.proofs.lemmas.Grind.{common_steps}
use Rattle.std.proofs.Common.{◌+◌, drop, sym, ◌∙◌, arith, sum_by}
use Rattle.hp_lookup.proofs.Words.{in_place}
use Rattle.hp_file.proofs.Drops.{drop_next, drop_start, still_held}
use Rattle.hp_file.proofs.Sharing.{copied_in, sum_read}
use Rattle.hp_file.proofs.dropping.drop_run.Goals as goal

pub loop-at-init : goal.loop-at-init
loop-at-init g c = grind (arith, common_steps, drop_start)

pub drop_counting-requires-clause-held : goal.drop_counting-requires-clause-held
drop_counting-requires-clause-held g c = grind (arith, common_steps, still_held, copied_in, sum_read)

pub loop-at-preserved : goal.loop-at-preserved
loop-at-preserved g c =
    let ps = c.args.places.now in
    let was = c.loop-at.invariant in
    let i = c.loop-at.at in
    let p = c.index-places-at.result in
    let number = c.in-Some.number in
    record {
      high = omega (arith, c.loop-at-test.true);
      dropping = drop_next (λ n. sum_by (in_place n) ps) (λ n. sum_by (in_place n) (drop i ps)) (λ n. sum_by (in_place n) (drop (i + 1) ps))
          c.args.pages.now.store c.loop-at.pages.store was.dropping number (c.requires.held number)
          (λ n. (let step = sum_read (in_place n) ps i p c.loop-at-test.true c.index-places-at.is in
          let here = copied_in n number p (sym c.copy_in.ensures ∙ c.in-Some.is) in omega (arith, step, here))) c.drop_counting.new.store
          c.drop_counting.ensures.dropped;
      counted = omega (arith, was.counted, c.drop_counting.ensures.counted);
      fewer = omega (arith, was.fewer, c.drop_counting.ensures.one);
    }
